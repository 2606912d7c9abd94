-- What each code gives, from what the parts below it give, and that it is too wide where they are: one law for each.
use Prim.Native.Nat.{ℕ, ◌+◌, ◌≤◌, ◌<◌, max}
use native.Mathlib.Omega.{arith}
use mathlib.Core.Path.{◌≡◌, refl}
use mathlib.Core.Bool.{Bool, true, false}
use mathlib.Core.List.{[], ◌∷◌, map}
use lib.ListN.{length}
use Rattle.rules.specs.Packets.{Packet, Packets, passes, put, keep, lacks, gathered, union, pairs, without, most_packets}
use Rattle.rules.specs.Parts.{Part, Id, Drop, Test, Set, Not, Sum, Seq, Beside, Table}
use Rattle.rules.specs.Working.{each, out, steps, room, own, widest, width}
use Rattle.rules.proofs.Bounds.{handed, given, width_one, width_more}
use Rattle.rows.proofs.Holding.{held_self, held_count, held_few}
use Rattle.sets.specs.declared.packet_set.PacketSet.{PacketSet}
use Rattle.sets.specs.Whole.{packets}
use Rattle.evaluator.specs.Work.{worked, NotWide}
use Rattle.evaluator.specs.declared.Worked.{Worked}

pub no : {P : Type 0} → ◌≡◌ {A = Bool} true false → P
no e = absurd (let z : ◌≡◌ {A = ℕ} 0 1 = cc in omega arith)

-- a set has at most 16 packets
pub few : (x : PacketSet) → length (packets x) ≤ most_packets
few x = held_few (held_self x.packed)

pub counted : (x : PacketSet) → x.count ≡ length (packets x)
counted x = held_count (held_self x.packed)

-- codes with no part below
module _ {s : Packets} (l : length s ≤ most_packets) (a : ℕ) where
  pub gives_id : NotWide Id s a s (worked 0 1 a)
  unfolding out steps room width own
  gives_id = record { narrow = omega (arith, l); same = refl; steps = refl; room = refl; next = refl }

  module _ {t : Packets} where
    pub gives_drop : t ≡ [] → NotWide Drop s a t (worked 1 1 a)
    unfolding out steps room width own
    gives_drop h = record { narrow = omega (arith, l); same = h; steps = refl; room = refl; next = refl }

    module _ (m : length t ≤ most_packets) (f x : ℕ) where
      pub gives_test : t ≡ keep (passes f x) s → NotWide (Test f x) s a t (worked 1 1 a)
      unfolding out steps room width own
      gives_test h = record { narrow = omega (arith, l, rw h at m); same = h; steps = refl; room = refl; next = refl }

      pub gives_set : t ≡ gathered (map (put f x) s) → NotWide (Set f x) s a t (worked 1 1 a)
      unfolding out steps room width own
      gives_set h = record { narrow = omega (arith, l, rw h at m); same = h; steps = refl; room = refl; next = refl }

module _ {p : Part} {s u : Packets} {n : ℕ} {a : Worked} (g : NotWide p s n u a) where
  -- the set without what the part gave
  pub gives_not : {t : Packets} → length s ≤ most_packets → length t ≤ most_packets → t ≡ keep (lacks u) s
      → NotWide (Not p) s n t (worked (a.steps + 2) (1 + a.room) a.next)
  unfolding out steps room width own
  gives_not {t} l m h =
      let h' : t ≡ keep (lacks (out p s)) s = rw g.same at h in
      record { narrow = omega (arith, l, rw h' at m, g.narrow); same = h'; steps = rw g.steps; room = rw g.room; next = g.next }

  pub gives_table : (next x rd w start : ℕ) → NotWide (Table x rd w start p) s next u (worked (1 + a.steps) a.room next)
  unfolding out steps room width own
  gives_table next x rd w start = record {
    narrow = omega (arith, g.narrow, handed p s, given p s);
    same = g.same;
    steps = rw g.steps;
    room = g.room;
    next = refl;
  }

  -- the second part on what the first gave
  pub gives_seq : {q : Part} {t : Packets} {k : ℕ} {b : Worked} → NotWide q u k t b
      → NotWide (Seq p q) s k t (worked (a.steps + b.steps + 1) (max (1 + a.room) b.room) b.next)
  unfolding out steps room width own
  gives_seq {q} {t} {k} {b} f =
      let g' : NotWide q (out p s) k t b = rw g.same at f in
      record {
        narrow = omega (arith, g.narrow, g'.narrow, handed p s, given q (out p s));
        same = g'.same;
        steps = rw (g.steps, g'.steps);
        room = rw (g.room, g'.room);
        next = g'.next;
      }

-- what is joined or paired of what two parts gave
abbrev both : Worked → Worked → Worked
both a b = worked (a.steps + b.steps + 2) (1 + (a.room + b.room)) b.next

module _ {p q : Part} {s u v : Packets} {n k : ℕ} {a b : Worked} (g : NotWide p s n u a) (f : NotWide q s k v b) where
  pub gives_sum : {t : Packets} → length t ≤ most_packets → t ≡ union u v → NotWide (Sum p q) s k t (both a b)
  unfolding out steps room width own
  gives_sum {t} m h =
      let h' : t ≡ union (out p s) (out q s) = rw (g.same, f.same) at h in
      record {
        narrow = omega (arith, rw h' at m, handed p s, g.narrow, f.narrow);
        same = h';
        steps = rw (g.steps, f.steps);
        room = rw (g.room, f.room);
        next = f.next;
      }

  pub wide_sum : most_packets < length (union u v) → most_packets < width (Sum p q) s
  unfolding out width own
  wide_sum h = omega (arith, rw (g.same, f.same) at h)

module _ (wp wq : ℕ) (p q : Part) where
  -- on no packet
  pub gives_none : (n : ℕ) → NotWide (Beside wp wq p q) [] n [] (worked 1 1 n)
  unfolding out steps room width own widest each
  gives_none n = record { narrow = omega arith; same = refl; steps = refl; room = refl; next = refl }

  -- on one
  module _ (x : Packet) {u v : Packets} {n k : ℕ} {a b : Worked}
      (g : NotWide p (without wq x ∷ []) n u a) (f : NotWide q (without wp x ∷ []) k v b) where
    pub gives_pair : {t : Packets} → length t ≤ most_packets → t ≡ pairs wq u v → NotWide (Beside wp wq p q) (x ∷ []) k t (both a b)
    unfolding out steps room each own
    gives_pair {t} m h =
        let h' : t ≡ pairs wq (out p (without wq x ∷ [])) (out q (without wp x ∷ [])) = rw (g.same, f.same) at h in
        record {
          narrow = omega (arith, rw h' at m, g.narrow, f.narrow, width_one wp wq p q x);
          same = h';
          steps = rw (g.steps, f.steps);
          room = rw (g.room, f.room);
          next = f.next;
        }

    pub wide_pair : most_packets < length (pairs wq u v) → most_packets < width (Beside wp wq p q) (x ∷ [])
    unfolding out each own
    wide_pair h = omega (arith, rw (g.same, f.same) at h, width_one wp wq p q x)

  -- on more: the lowest and the rest
  module _ (x : Packet) {u v : Packets} {n k : ℕ} {a b : Worked} (g : NotWide (Beside wp wq p q) (x ∷ []) n u a) where
    pub gives_split : (s : Packets) → length (x ∷ s) ≤ most_packets → 0 < length s → NotWide (Beside wp wq p q) s k v b
        → {t : Packets} → length t ≤ most_packets → t ≡ union u v → NotWide (Beside wp wq p q) (x ∷ s) k t (both a b)
    unfolding out steps room each own
    gives_split [] l some f m h = absurd (omega arith)
    gives_split (y ∷ s) l some f {t} m h =
        let h' : t ≡ union (out (Beside wp wq p q) (x ∷ [])) (out (Beside wp wq p q) (y ∷ s)) = rw (g.same, f.same) at h in
        record {
          narrow = omega (arith, rw h' at m, l, g.narrow, f.narrow, width_more wp wq p q x (y ∷ s));
          same = h';
          steps = rw (g.steps, f.steps);
          room = rw (g.room, f.room);
          next = f.next;
        }

    pub wide_split : (s : Packets) → 0 < length s → NotWide (Beside wp wq p q) s k v b → most_packets < length (union u v)
        → most_packets < width (Beside wp wq p q) (x ∷ s)
    unfolding out each own
    wide_split [] some f h = absurd (omega arith)
    wide_split (y ∷ s) some f h = omega (arith, rw (g.same, f.same) at h, width_more wp wq p q x (y ∷ s))
