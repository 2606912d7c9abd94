-- Where the entries of a policy stand in the bytes of a book: written contents and bodies say the same as reading them (document 01,
-- "The policy book").
use Prim.Native.Nat.{ℕ, zero, suc, ◌+◌, ◌*◌, ◌/◌, ◌%◌, ◌<◌, ◌≤◌}
use native.Mathlib.Omega.{arith}
use native.Mathlib.Nat.{add-zero}
use mathlib.Core.Path.{◌≡◌, refl, sym, ap, ◌∙◌}
use mathlib.Core.List.{List, [], ◌∷◌, ◌++◌, append_assoc, append-nil}
use lib.ListN.{length, get_or, drop, length-append}
use lib.Seq.{drop-cons, drop-drop, drop-append_seam, drop-length}
use Rattle.rules.specs.Books.{Entry, Policy, entries, bytes_of, contents, bodies, write_book, first_body, start_in, no_entry, Bytes}
use Rattle.rules.specs.Reading.{fields_of, tables_of, length_at, reads_at, writes_at, body_start}
use Rattle.rules.proofs.Decoding.{drop_head}

-- e is what s says as entry x: its masks, its length, and its body's bytes where they belong
pub record EntryThere (s : List ℕ) (x : ℕ) (e : Entry) : Type 0 where
  pub reads : reads_at s x ≡ e.reads
  pub writes : writes_at s x ≡ e.writes
  pub size : length_at s x ≡ length (bytes_of e.body)
  pub bytes : drop (body_start s x) s ≡ bytes_of e.body ++ drop (body_start s (suc x)) s

-- these are the entries from x on
abbrev pub AllThere : List ℕ → ℕ → List Entry → Type 0
AllThere s x [] = Unit {0}
AllThere s x (e ∷ es) = EntryThere s x e × AllThere s (suc x) es

drop_four : (s : List ℕ) (a : ℕ) → a + 4 ≤ length s
    → drop a s ≡ get_or s a 0 ∷ get_or s (a + 1) 0 ∷ get_or s (a + 2) 0 ∷ get_or s (a + 3) 0 ∷ drop (a + 4) s
drop_four s a h =
    let one : (i : ℕ) → i < length s → drop i s ≡ get_or s i 0 ∷ drop (i + 1) s
    = λ i l. (let q : suc i ≡ i + 1 = omega arith in rw (← q) (drop-cons s i 0 l)) in
    let e2 : a + 1 + 1 ≡ a + 2 = omega arith in
    let e3 : a + 2 + 1 ≡ a + 3 = omega arith in
    let e4 : a + 3 + 1 ≡ a + 4 = omega arith in
    one a (omega arith)
    ∙ ap (λ (l : List ℕ). get_or s a 0 ∷ l)
    (one (a + 1) (omega arith) ∙ rw e2
    (ap (λ (l : List ℕ). get_or s (a + 1) 0 ∷ l)
    (one (a + 2) (omega arith) ∙ rw e3
    (ap (λ (l : List ℕ). get_or s (a + 2) 0 ∷ l) (rw e4 at (one (a + 3) (omega arith)))))))

module _ (s : List ℕ) where
  -- ---- entries that stand are written there

  pub contents_stand : Bytes s → (es : List Entry) (x : ℕ) → AllThere s x es → 2 + 4 * (x + length es) ≤ length s
      → drop (2 + 4 * x) s ≡ contents es ++ drop (2 + 4 * (x + length es)) s
  unfolding contents
  contents_stand small [] x h le = rw (add-zero x)
  contents_stand small (e ∷ es) x h le =
      let n : x + suc (length es) ≡ suc x + length es = omega arith in
      let ih = contents_stand small es (suc x) h.1 (omega arith) in
      let four = drop_four s (2 + 4 * x) (omega arith) in
      let l : ℕ = length (bytes_of e.body) in
      let hi : get_or s (2 + 4 * x) 0 ≡ l / 256 = omega (arith, h.0.size, small (2 + 4 * x + 1)) in
      let lo : get_or s (2 + 4 * x + 1) 0 ≡ l % 256 = omega (arith, h.0.size, small (2 + 4 * x + 1)) in
      let er : 2 + 4 * x + 2 ≡ 4 + 4 * x = omega arith in
      let ew : 2 + 4 * x + 3 ≡ 5 + 4 * x = omega arith in
      let en : 2 + 4 * x + 4 ≡ 2 + 4 * suc x = omega arith in
      four ∙ rw (hi, lo, er, ew, en, h.0.reads, h.0.writes, n, ih)

  pub bodies_stand : (es : List Entry) (x : ℕ) → AllThere s x es
      → drop (body_start s x) s ≡ bodies es ++ drop (body_start s (x + length es)) s
  unfolding bodies
  bodies_stand [] x h = rw (add-zero x)
  bodies_stand (e ∷ es) x h =
      let n : x + suc (length es) ≡ suc x + length es = omega arith in
      let b : List ℕ = bytes_of e.body in
      rw n (h.0.bytes ∙ ap (λ (l : List ℕ). b ++ l) (bodies_stand es (suc x) h.1)
      ∙ sym (append_assoc b (bodies es) (drop (body_start s (suc x + length es)) s)))

  -- where the bodies end, and where each starts
  pub ends_stand : (es : List Entry) (x : ℕ) → AllThere s x es → body_start s (x + length es) ≡ body_start s x + length (bodies es)
  unfolding bodies body_start
  ends_stand [] x h = rw (add-zero x) (sym (add-zero (body_start s x)))
  ends_stand (e ∷ es) x h =
      let n : x + suc (length es) ≡ suc x + length es = omega arith in
      rw n (omega (arith, ends_stand es (suc x) h.1, h.0.size, length-append (bytes_of e.body) (bodies es)))

  pub start_stands : (es : List Entry) (x i : ℕ) → AllThere s x es → i < length es → start_in (body_start s x) es i ≡ body_start s (x + i)
  unfolding start_in body_start
  start_stands [] x i h l = absurd (omega arith)
  start_stands (e ∷ es) x zero h l = rw (add-zero x)
  start_stands (e ∷ es) x (suc i) h l =
      let n : x + suc i ≡ suc x + i = omega arith in
      rw (← h.0.size, n) (start_stands es (suc x) i h.1 (omega arith))

  -- each of them
  pub entry_stands : (es : List Entry) (x i : ℕ) → AllThere s x es → i < length es → EntryThere s (x + i) (get_or es i no_entry)
  entry_stands [] x i h l = absurd (omega arith)
  entry_stands (e ∷ es) x zero h l = rw (add-zero x) h.0
  entry_stands (e ∷ es) x (suc i) h l =
      let n : x + suc i ≡ suc x + i = omega arith in rw n (entry_stands es (suc x) i h.1 (omega arith))

  -- ---- entries that are written there stand

  entry_written : (x : ℕ) (e : Entry) (rest later : List ℕ)
      → drop (2 + 4 * x) s ≡ length (bytes_of e.body) / 256 ∷ length (bytes_of e.body) % 256 ∷ e.reads ∷ e.writes ∷ rest
      → drop (body_start s x) s ≡ bytes_of e.body ++ later
      → EntryThere s x e × (drop (2 + 4 * suc x) s ≡ rest) × (drop (body_start s (suc x)) s ≡ later)
  unfolding body_start
  entry_written x e rest later c b =
      let l : ℕ = length (bytes_of e.body) in
      let p0 = drop_head s (2 + 4 * x) (l / 256) (l % 256 ∷ e.reads ∷ e.writes ∷ rest) c in
      let p1 = drop_head s (2 + 4 * x + 1) (l % 256) (e.reads ∷ e.writes ∷ rest) p0.2 in
      let p2 = drop_head s (2 + 4 * x + 1 + 1) e.reads (e.writes ∷ rest) p1.2 in
      let p3 = drop_head s (2 + 4 * x + 1 + 1 + 1) e.writes rest p2.2 in
      let er : 2 + 4 * x + 1 + 1 ≡ 4 + 4 * x = omega arith in
      let ew : 4 + 4 * x + 1 ≡ 5 + 4 * x = omega arith in
      let en : 5 + 4 * x + 1 ≡ 2 + 4 * suc x = omega arith in
      let size : length_at s x ≡ l = rw (p0.1, p1.1) (omega arith) in
      let after : drop (body_start s x + length_at s x) s ≡ later
      = rw size (sym (drop-drop l (body_start s x) s) ∙ ap (drop l) b ∙ drop-append_seam (bytes_of e.body) later) in (
        record {
          reads = rw er at p2.1;
          writes = rw (er, ew) at p3.1;
          size = size;
          bytes = b ∙ ap (λ (k : List ℕ). bytes_of e.body ++ k) (sym after);
        },
        rw (er, ew, en) at p3.2,
        after,
      )

  pub stand_written : (es : List Entry) (x : ℕ) (rest later : List ℕ) → drop (2 + 4 * x) s ≡ contents es ++ rest
      → drop (body_start s x) s ≡ bodies es ++ later → AllThere s x es
  unfolding contents bodies
  stand_written [] x rest later c b = tt
  stand_written (e ∷ es) x rest later c b =
      let w = entry_written x e (contents es ++ rest) (bodies es ++ later) c (b ∙ append_assoc (bytes_of e.body) (bodies es) later) in
      (w.0, stand_written es (suc x) rest later w.1 w.2)

-- ---- the whole book

contents_length : (es : List Entry) → length (contents es) ≡ 4 * length es
unfolding contents
contents_length [] = refl
contents_length (e ∷ es) = omega (arith, contents_length es)

module _ (P : Policy) where
  -- a policy whose entries stand in s, to its end, is written as s
  pub book_stands : (s : List ℕ) → Bytes s → 2 ≤ length s → fields_of s ≡ P.fields → tables_of s ≡ length P.tables
      → AllThere s 0 (entries P) → body_start s (suc (tables_of s)) ≡ length s → s ≡ write_book P
  unfolding write_book entries body_start
  book_stands s small two k m h end =
      let es : List Entry = entries P in
      let n : 0 + length es ≡ suc (tables_of s) = omega arith in
      let ends : body_start s (suc (tables_of s)) ≡ 6 + 4 * tables_of s + length (bodies es) = rw n at (ends_stand s es 0 h) in
      let c : drop 2 s ≡ contents es ++ drop (body_start s 0) s
      = contents_stand s small es 0 h (omega arith)
      ∙ (let q : 2 + 4 * (0 + length es) ≡ 6 + 4 * tables_of s = omega arith in ap (λ (a : ℕ). contents es ++ drop a s) q) in
      let b : drop (body_start s 0) s ≡ bodies es
      = bodies_stand s es 0 h ∙ rw (n, end, drop-length s) (append-nil (bodies es)) in
      drop-cons s 0 0 (omega arith) ∙ ap (λ (l : List ℕ). fields_of s ∷ l) (drop-cons s 1 0 (omega arith))
      ∙ rw (c, b, k, m)

  -- the entries of a policy stand in the book that it is written as, to its end
  pub written_stands : AllThere (write_book P) 0 (entries P) × (body_start (write_book P) (suc (length P.tables)) ≡ length (write_book P))
  unfolding write_book entries body_start
  written_stands =
      let s : List ℕ = write_book P in
      let es : List Entry = entries P in
      let q : first_body (length P.tables) ≡ 2 + length (contents es) = omega (arith, contents_length es) in
      let b : drop (body_start s 0) s ≡ bodies es ++ []
      = rw q (sym (drop-drop (length (contents es)) 2 s)) ∙ drop-append_seam (contents es) (bodies es) ∙ sym (append-nil (bodies es)) in
      let h : AllThere s 0 es = stand_written s es 0 (bodies es) [] refl b in
      let n : 0 + length es ≡ suc (length P.tables) = omega arith in
      (h, rw n at (ends_stand s es 0 h) ∙ omega (arith, length-append (contents es) (bodies es), contents_length es))
