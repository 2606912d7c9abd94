-- The evaluator's contract in the words of demand 2: the answer is the only one, buffer included (`unique`), and a packet set that is
-- given is exactly what the published meaning gives, ascending, at the front of the result, all other words kept (`published`).
use Rattle.std.specs.Prelude.{Ok, Result}
use Rattle.rules.specs.declared.Refusal.{Refusal}
use Prim.Native.Nat.{ℕ, ◌*◌, ◌≤◌}
use native.Mathlib.Omega.{arith}
use mathlib.Core.Path.{◌≡◌, sym, ap, ◌∙◌}
use mathlib.Core.Logic.{◌↔◌}
use mathlib.Core.List.{List, ◌++◌}
use lib.ListN.{length, take, drop, length-map}
use lib.Seq.{take_at, drop_at}
use Rattle.rules.specs.declared.Outcome.{Outcome}
use Rattle.rules.specs.Packets.{Packet, Packets, most_packets, Ascending, ◌∈◌, values_of}
use Rattle.rules.specs.Parts.{parts, deep}
use Rattle.rules.specs.Meaning.{Gives}
use Rattle.rules.specs.Reading.{fields_of, main_of}
use Rattle.rules.specs.Working.{steps, room}
use Rattle.rules.specs.Answers.{start_set, given, outcome, evaluated_result, overwritten}
use Rattle.rules.specs.Books.{Bytes}
use Rattle.rules.specs.Promises.{packets_given, EvaluateAnswer}
use Rattle.rules.proofs.Bounds.{given as width-given}
use Rattle.rules.proofs.Padding.{as_long}
use Rattle.rules.proofs.Answering.{given_was}
use Rattle.rules.proofs.Ends.{values_map, length_values}
use Rattle.rules.proofs.Demands.{packets_exactly, packets_ascending, packets_determined}

-- whatever two answers, with their buffers, meet the contract, they are the same
pub unique : (book packet before : List ℕ) {after after' : List ℕ} {r r' : Result Outcome Refusal} → EvaluateAnswer book packet before r after
    → EvaluateAnswer book packet before r' after' → (r ≡ r') × (after ≡ after')
unique book packet before a b = (a.is ∙ sym b.is, a.out ∙ sym b.out)

-- what a given packet set says
pub record Published (book packet before after : List ℕ) (o : Outcome) : Type 0 where
  pub fields : length packet ≡ fields_of book
  pub ascending : Ascending (packets_given book packet)
  pub exact : (b : Packet) → (b ∈ packets_given book packet) ↔ Gives (main_of book) packet b
  pub only : (t : Packets) → Ascending t → ((b : Packet) → (b ∈ t) ↔ Gives (main_of book) packet b) → t ≡ packets_given book packet
  pub count : o.count ≡ length (packets_given book packet)
  pub few : o.count ≤ most_packets
  pub words : take (o.count * fields_of book) after ≡ values_of (fields_of book) (packets_given book packet)
  pub kept : drop (o.count * fields_of book) after ≡ drop (o.count * fields_of book) before
  pub steps : o.steps ≡ steps (main_of book) (start_set packet)
  pub parts : o.parts ≡ parts (main_of book)
  pub deep : o.deep ≡ deep (main_of book)
  pub room : o.room ≡ room (main_of book) (start_set packet)

pub published : (book packet before after : List ℕ) (o : Outcome) → Bytes book
    → EvaluateAnswer book packet before (Ok o) after
    → Published book packet before after o
unfolding outcome given evaluated_result overwritten
published s p b a o small answer =
    let e = answer.is in
    let t = given_was s p (length b) o (sym e) in
    let g = t.0 in
    let same = t.2 in
    let k = fields_of s in
    let exact = packets_exactly s p small g in
    let r = packets_given s p in
    let c : o.count ≡ length r = ap (λ (x : Outcome). x.count) same ∙ sym (length-map (given s p) (take k)) in
    let n : length (values_of k r) ≡ o.count * k =
    length_values k r (λ x i. as_long (main_of s) p x ((exact x).0 i) ∙ g.words) ∙ ap (λ (y : ℕ). y * k) (sym c) in
    let w : a ≡ values_of k r ++ drop (o.count * k) b = answer.out ∙ rw (← e, ← n, values_map k (given s p)) in
    record {
      fields = g.words;
      ascending = packets_ascending s p small g;
      exact = exact;
      only = packets_determined s p small g;
      count = c;
      few = omega (arith, c, length-map (given s p) (take k), width-given (main_of s) (start_set p), g.narrow);
      words = rw w (take_at (values_of k r) (drop (o.count * k) b) (o.count * k) n);
      kept = rw w (drop_at (values_of k r) (drop (o.count * k) b) (o.count * k) n);
      steps = ap (λ (x : Outcome). x.steps) same;
      parts = ap (λ (x : Outcome). x.parts) same;
      deep = ap (λ (x : Outcome). x.deep) same;
      room = ap (λ (x : Outcome). x.room) same;
    }
