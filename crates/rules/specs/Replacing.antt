-- A policy with the body of one table replaced (document 01: "The declared masks count, since the body can be replaced").
use Rattle.std.specs.Prelude.{ℕ, zero, suc, ◌≡◌, true, List, [], ◌∷◌, get_or}
use Rattle.std.proofs.Math.Option.{Option}
use Rattle.rules.specs.Parts.{Part, Id, Drop, Test, Set, Not, Sum, Seq, Beside, Table, Open}
use Rattle.rules.specs.Typing.{Right, fits}
use Rattle.rules.specs.Books.{Entry, Policy, entries, no_entry, table_of, OfBody}

-- the masks R and W that are declared for table x, and its body
abbrev pub declared_reads : Policy → ℕ → ℕ
declared_reads P x = (get_or (entries P) x no_entry).reads

abbrev pub declared_writes : Policy → ℕ → ℕ
declared_writes P x = (get_or (entries P) x no_entry).writes

abbrev pub body_of : Policy → ℕ → Option Part
body_of P x = (get_or (entries P) x no_entry).body

-- the part in which each use of a table x stands for `named x`
unfoldable pub rebound : (ℕ → Part) → Part → Part
rebound named Id = Id
rebound named Drop = Drop
rebound named (Test f v) = Test f v
rebound named (Set f v) = Set f v
rebound named (Not p) = Not (rebound named p)
rebound named (Sum p q) = Sum (rebound named p) (rebound named q)
rebound named (Seq p q) = Seq (rebound named p) (rebound named q)
rebound named (Beside wp wq p q) = Beside wp wq (rebound named p) (rebound named q)
rebound named (Table x r w start p) = named x
rebound named (Open x r w) = named x

-- the tables 1 to m with another body, or none, for table x: its masks and the other tables stay
unfoldable pub tables_with : ℕ → Option Part → List Entry → List Entry
tables_with zero b es = es
tables_with (suc x) b [] = []
tables_with (suc zero) b (e ∷ es) = record { reads = e.reads; writes = e.writes; body = b } ∷ es
tables_with (suc (suc x)) b (e ∷ es) = e ∷ tables_with (suc x) b es

abbrev pub with_tables : Policy → List Entry → Part → Policy
with_tables P es main = record { fields = P.fields; reads = P.reads; writes = P.writes; main = main; tables = es }

-- the policy with another body, or none, for table x; each use in the main policy stands for what the new book says of its table
unfoldable pub replaced_body : Policy → ℕ → Option Part → Policy
replaced_body P x b =
    let es = tables_with x b P.tables in with_tables P es (rebound (table_of (with_tables P es P.main)) P.main)

-- a body, or none, that is right and fits the masks declared for table x
abbrev pub TypedFor : Policy → ℕ → Option Part → Type 0
TypedFor P x b = OfBody (λ p. Right p × (fits (declared_reads P x) (declared_writes P x) p ≡ true)) b
