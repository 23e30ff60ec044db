-- Block after block. Assumes nothing.
use mathlib.Core.Path.{sym, subst}
use mathlib.Core.Bool.{true}
use mathlib.Core.Logic.{inl, inr, ◌↔◌}
use Prim.Native.Nat.{ℕ, zero, suc, ◌+◌, ◌-◌, ◌<◌, ◌≤◌}
use native.Mathlib.Omega.{arith}
use native.Mathlib.Decide.{dec_lt}
use lib.Dec.{T}
use Rattle.block.specs.Calls.{all_row}
use Rattle.block.proofs.Rows.{bit_tab}
use Rattle.theory.specs.Pattern.{Pattern, Streams, leaf, many, plus, eps, seq, alt, opt, star, head, tail, Matches}
use Rattle.theory.specs.Block.{Carry, none, Cont, Reach, Has}
use Rattle.theory.specs.Whole.{Ending, Carried, FirstBorder, NextBlock, border, carried, marked, AllSettled, Marked, ManyBlocks}
use Rattle.theory.proofs.Reaching.{matches_le}
use Rattle.theory.proofs.Blocks.{one_block}

-- no carries lead nowhere
cont_none : (t : Streams) (a : ℕ) (F : Pattern) (p : ℕ) → Cont t a F (none F) p → ⊥
cont_none t a (leaf C) p c = c.1
cont_none t a (many C) p c = c.1.1
cont_none t a (plus C) p c = c.1.1
cont_none t a eps p c = c
cont_none t a (seq F G) p (inl c) = cont_none t a F c.0 c.1
cont_none t a (seq F G) p (inr c) = cont_none t a G p c
cont_none t a (alt F G) p (inl c) = cont_none t a F p c
cont_none t a (alt F G) p (inr c) = cont_none t a G p c
cont_none t a (opt F) p c = cont_none t a F p c
cont_none t a (star F) p c = cont_none t a F c.0 c.1
cont_none t a head p c = c
cont_none t a tail p c = c

all_has : (a W p : ℕ) → a ≤ p → p < a + W → Has a W (all_row W) p
all_has a W p l h =
    let i<W : p - a < W = omega arith in (p - a, omega arith, i<W, subst T (sym (bit_tab W (λ i. true) (p - a) i<W)) tt)

-- a match that begins before b
abbrev Before : Streams → Pattern → ℕ → ℕ → Type 0
Before t F b p = (s : ℕ) × (s < b) × Matches t F s p

module _ (t : Streams) (a W : ℕ) (F : Pattern) (k : Carry F) where
  -- from the block's places and its carries, or from anywhere before its end
  reach_before : (p : ℕ) → (Cont t a F k p → Before t F a p) → Reach t a F k (Has a W (all_row W)) p → Before t F (a + W) p
  reach_before p from (inl h) = (h.0, omega arith, h.2)
  reach_before p from (inr c) = let y = from c in (y.0, omega arith, y.2)

  before_reach : (p : ℕ) → (Before t F a p → Cont t a F k p) → Before t F (a + W) p → Reach t a F k (Has a W (all_row W)) p
  before_reach p to h =
      elim (dec_lt h.0 a)
      [ yes l ↦ inr (to (h.0, l, h.2)) | no l ↦ inl (h.0, all_has a W h.0 (omega arith) (omega arith), h.2) ]

pub first_border : FirstBorder
first_border t F p l = (λ c. absurd (cont_none t 0 F p c), λ x. absurd (omega arith))

pub next_block : NextBlock
next_block t a W w F k n stands settled =
    let one = one_block t a W w F k (all_row W) n settled in (
      λ p low high.
          let x = one.0 p high in (
            λ h. let y = reach_before t a W F k p (stands p low).0 (x.0 h) in (y.0, y.2),
            λ h. x.1 (before_reach t a W F k p (stands p low).1 (h.0, omega (arith, matches_le t F h.0 p h.1), h.1)),
          ),
      λ p l.
          let x = one.1 p l in
          let low : a ≤ p = omega arith in (
            λ h. reach_before t a W F k p (stands p low).0 (x.0 h),
            λ h. x.1 (before_reach t a W F k p (stands p low).1 h),
          ),
    )

module _ (t : Streams) (W : ℕ) (w : 0 < W) (F : Pattern) (n : ℕ → ℕ) (blocks : ℕ) (settled : AllSettled t W F n blocks) where
  at_border : (j : ℕ) → j ≤ blocks → Carried t (border W j) F (carried t W F n j)
  at_border zero l = first_border t F
  at_border (suc j) l =
      (next_block t (border W j) W w F (carried t W F n j) (n j) (at_border j (omega arith)) (settled j l)).1

  in_block : (j : ℕ) → j < blocks → (p : ℕ) → border W j ≤ p → p < border W (suc j)
      → Has (border W j) W (marked t W F n j) p ↔ Ending t F p
  in_block j l = (next_block t (border W j) W w F (carried t W F n j) (n j) (at_border j (omega arith)) (settled j l)).0

  find : (b : ℕ) (p : ℕ) → p < border W b → (j : ℕ) × (j < b) × (border W j ≤ p) × (p < border W (suc j))
  find zero p h = absurd (omega arith)
  find (suc b) p h =
      elim (dec_lt p (border W b))
      [ yes l ↦ let y = find b p l in (y.0, omega arith, y.2, y.3) | no l ↦ (b, omega arith, omega arith, h) ]

  together : (p : ℕ) → p < border W blocks → Marked t W F n blocks p ↔ Ending t F p
  together p l = (
    λ x. (in_block x.0 x.1 p (omega arith) (omega arith)).0 x.2,
    λ x. let y = find blocks p l in (y.0, y.1, (in_block y.0 y.1 p y.2 y.3).1 x),
  )

pub many_blocks : ManyBlocks
many_blocks t W w F n blocks settled = together t W w F n blocks settled
