-- One block of the streams: what a pass over a pattern computes on marks, carries and registers, and what is claimed of it.
-- Assumes nothing.
use Rattle.std.specs.Prelude.{◌≡◌, Bool, false, ◌||◌, List, ◌⊎◌, ◌↔◌, ℕ, zero, suc, ◌+◌, ◌-◌, ◌<◌, ◌≤◌, T}
use Rattle.block.specs.Rows.{bit, tab}
use Rattle.block.specs.Calls.{none_row, and_row, or_row, enters}
use Rattle.stream.specs.MatchStar.{star_row, star_out}
use Rattle.theory.specs.Pattern.{Pattern, Streams, leaf, many, plus, eps, seq, alt, opt, star, head, tail, Steps, Takes, Matches}

-- one bit for each leaf: it consumed the byte before the block
abbrev pub Carry : Pattern → Type 0
Carry (leaf C) = Bool
Carry (many C) = Bool
Carry (plus C) = Bool
Carry eps = Unit {0}
Carry (seq F G) = Carry F × Carry G
Carry (alt F G) = Carry F × Carry G
Carry (opt F) = Carry F
Carry (star F) = Carry F
Carry head = Unit {0}
Carry tail = Unit {0}

abbrev pub none : (F : Pattern) → Carry F
none (leaf C) = false
none (many C) = false
none (plus C) = false
none eps = tt
none (seq F G) = (none F, none G)
none (alt F G) = (none F, none G)
none (opt F) = none F
none (star F) = none F
none head = tt
none tail = tt

-- from the carries k at the border a, F completes at p
abbrev pub Cont : Streams → (a : ℕ) (F : Pattern) → Carry F → ℕ → Type 0
Cont t a (leaf C) k p = (p ≡ a) × T k
Cont t a (many C) k p = (q : ℕ) × ((q ≡ a) × T k) × Steps (Takes t C) p q
Cont t a (plus C) k p = (q : ℕ) × ((q ≡ a) × T k) × Steps (Takes t C) p q
Cont t a eps k p = ⊥
Cont t a (seq F G) k p = ((q : ℕ) × Cont t a F k.0 q × Matches t G q p) ⊎ Cont t a G k.1 p
Cont t a (alt F G) k p = Cont t a F k.0 p ⊎ Cont t a G k.1 p
Cont t a (opt F) k p = Cont t a F k p
Cont t a (star F) k p = (q : ℕ) × Cont t a F k q × Steps (Matches t F) p q
Cont t a head k p = ⊥
Cont t a tail k p = ⊥

-- from a place of M, or from the carries k at the border a, F completes at p
abbrev pub Reach : Streams → (a : ℕ) (F : Pattern) → Carry F → (ℕ → Type 0) → ℕ → Type 0
Reach t a F k M p = ((s : ℕ) × M s × Matches t F s p) ⊎ Cont t a F k p

-- What a block's rows of marks can do. `step C k m` is the marks of m at bytes of C, one place on, with k at the block's first
-- place; `fall C m` is the bit that falls out. `run C k m` and `run_fall C k m` are the same of any number of steps.
pub record Ops (Row : Type 0) : Type 0 where
  pub step : ℕ → Bool → Row → Row
  pub fall : ℕ → Row → Bool
  pub run : ℕ → Bool → Row → Row
  pub run_fall : ℕ → Bool → Row → Bool
  pub both : Row → Row → Row
  pub heads : Row → Row
  pub tails : Row → Row

-- one row of marks for each star
abbrev pub Regs : Type 0 → Pattern → Type 0
Regs Row (leaf C) = Unit {0}
Regs Row (many C) = Unit {0}
Regs Row (plus C) = Unit {0}
Regs Row eps = Unit {0}
Regs Row (seq F G) = Regs Row F × Regs Row G
Regs Row (alt F G) = Regs Row F × Regs Row G
Regs Row (opt F) = Regs Row F
Regs Row (star F) = Row × Regs Row F
Regs Row head = Unit {0}
Regs Row tail = Unit {0}

-- A pass: the marks behind F, for marks m, carries k and registers r
abbrev pub out : {Row : Type 0} → Ops Row → (F : Pattern) → Carry F → Regs Row F → Row → Row
out o (leaf C) k r m = o.step C k m
out o (many C) k r m = o.run C k m
out o (plus C) k r m = o.run C false (o.step C k m)
out o eps k r m = m
out o (seq F G) k r m = out o G k.1 r.1 (out o F k.0 r.0 m)
out o (alt F G) k r m = o.both (out o F k.0 r.0 m) (out o G k.1 r.1 m)
out o (opt F) k r m = o.both m (out o F k r m)
out o (star F) k r m = o.both (o.both r.0 m) (out o F k r.1 (o.both r.0 m))
out o head k r m = o.heads m
out o tail k r m = o.tails m

-- the carries after it
abbrev pub carry : {Row : Type 0} → Ops Row → (F : Pattern) → Carry F → Regs Row F → Row → Carry F
carry o (leaf C) k r m = o.fall C m
carry o (many C) k r m = o.run_fall C k m
carry o (plus C) k r m = o.fall C m || o.run_fall C false (o.step C k m)
carry o eps k r m = tt
carry o (seq F G) k r m = (carry o F k.0 r.0 m, carry o G k.1 r.1 (out o F k.0 r.0 m))
carry o (alt F G) k r m = (carry o F k.0 r.0 m, carry o G k.1 r.1 m)
carry o (opt F) k r m = carry o F k r m
carry o (star F) k r m = carry o F k r.1 (o.both r.0 m)
carry o head k r m = tt
carry o tail k r m = tt

-- the registers after it
abbrev pub regs : {Row : Type 0} → Ops Row → (F : Pattern) → Carry F → Regs Row F → Row → Regs Row F
regs o (leaf C) k r m = tt
regs o (many C) k r m = tt
regs o (plus C) k r m = tt
regs o eps k r m = tt
regs o (seq F G) k r m = (regs o F k.0 r.0 m, regs o G k.1 r.1 (out o F k.0 r.0 m))
regs o (alt F G) k r m = (regs o F k.0 r.0 m, regs o G k.1 r.1 m)
regs o (opt F) k r m = regs o F k r m
regs o (star F) k r m = (o.both (o.both r.0 m) (out o F k r.1 (o.both r.0 m)), regs o F k r.1 (o.both r.0 m))
regs o head k r m = tt
regs o tail k r m = tt

-- every register empty
abbrev pub blank : {Row : Type 0} → Row → (F : Pattern) → Regs Row F
blank e (leaf C) = tt
blank e (many C) = tt
blank e (plus C) = tt
blank e eps = tt
blank e (seq F G) = (blank e F, blank e G)
blank e (alt F G) = (blank e F, blank e G)
blank e (opt F) = blank e F
blank e (star F) = (e, blank e F)
blank e head = tt
blank e tail = tt

-- the registers after n passes
abbrev pub after : {Row : Type 0} → Ops Row → Row → (F : Pattern) → Carry F → Row → ℕ → Regs Row F
after o e F k m zero = blank e F
after o e F k m (suc n) = regs o F k (after o e F k m n) m

-- Rows as lists of bits: the position a + i is the row's place i, and the block has W places.
abbrev pub class_row : Streams → (a W : ℕ) → ℕ → List Bool
class_row t a W C = tab W (λ i. t.class C (a + i))

abbrev pub start_row : Streams → (a W : ℕ) → List Bool
start_row t a W = tab W (λ i. t.starts (a + i))

abbrev pub feed_row : Streams → (a W : ℕ) → List Bool
feed_row t a W = tab W (λ i. t.feeds (a + i))

-- the marks m at the places of c, one place on, with k at the first; and the bit that falls out
abbrev pub step_row : ℕ → List Bool → Bool → List Bool → List Bool
step_row W c k m = tab W (enters k (bit (and_row W m c)))

abbrev pub step_out : ℕ → List Bool → List Bool → Bool
step_out W c m = bit (and_row W m c) (W - 1)

abbrev pub bits : Streams → (a W : ℕ) → Ops (List Bool)
bits t a W =
    record {
      step = λ C. step_row W (class_row t a W C);
      fall = λ C. step_out W (class_row t a W C);
      run = λ C k m. star_row W m (class_row t a W C) k;
      run_fall = λ C k m. star_out W m (class_row t a W C) k;
      both = or_row W;
      heads = λ m. and_row W m (start_row t a W);
      tails = λ m. and_row W m (feed_row t a W);
    }

-- the row m, of W places from a, has a mark at the place p
abbrev pub Has : ℕ → ℕ → List Bool → ℕ → Type 0
Has a W m p = (i : ℕ) × (p ≡ a + i) × (i < W) × T (bit m i)

-- the registers after n passes from empty ones
abbrev pub passes : Streams → (a W : ℕ) (F : Pattern) → Carry F → List Bool → ℕ → Regs (List Bool) F
passes t a W F k m n = after (bits t a W) (none_row W) F k m n

-- the next pass changes none of the registers r
abbrev pub Settled : Streams → (a W : ℕ) (F : Pattern) → Carry F → List Bool → Regs (List Bool) F → Type 0
Settled t a W F k m r = regs (bits t a W) F k r m ≡ r

-- One block, of W places from a: after n passes from empty registers, if the next changes none, then its marks are the places
-- at which F completes, and its carries say at which later places F does.
abbrev pub OneBlock : Type 0
OneBlock =
    (t : Streams) (a W : ℕ) →
    0 < W →
    (F : Pattern) (k : Carry F) (m : List Bool) (n : ℕ) →
    Settled t a W F k m (passes t a W F k m n) →
    ((p : ℕ) →
    p < a + W →
    Has a W (out (bits t a W) F k (passes t a W F k m n) m) p ↔ Reach t a F k (Has a W m) p)
    × ((p : ℕ) →
    a + W ≤ p →
    Cont t (a + W) F (carry (bits t a W) F k (passes t a W F k m n) m) p ↔ Reach t a F k (Has a W m) p)
