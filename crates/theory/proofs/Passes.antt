-- A block is settled after a bounded number of passes. Assumes nothing.
use mathlib.Core.Path.{◌≡◌, refl, subst, ap, ◌∙◌}
use mathlib.Core.Bool.{Bool, true, false, ◌||◌}
use mathlib.Core.List.{List, [], ◌∷◌}
use mathlib.Core.Logic.{◌⊎◌, inl, inr}
use Prim.Native.Nat.{ℕ, zero, suc, ◌+◌, ◌*◌, ◌<◌, ◌≤◌}
use native.Mathlib.Omega.{arith}
use lib.ListN.{length}
use Rattle.block.specs.Rows.{tab, bit}
use Rattle.block.specs.Calls.{none_row, or_row}
use Rattle.block.proofs.Rows.{length-tab}
use Rattle.theory.specs.Pattern.{Pattern, Streams, leaf, many, plus, eps, seq, alt, opt, star, head, tail}
use Rattle.theory.specs.Block.{Carry, Regs, bits, out, regs, blank, passes, Settled}
use Rattle.theory.specs.Passes.{zeros, room, Wide, stars, PassesFall, PassesEnd}

-- a row to which marks are added is as it was, or has fewer zeros
grow : (m : List Bool) (f : ℕ → Bool)
    → (tab (length m) (λ i. bit m i || f i) ≡ m) ⊎ (zeros (tab (length m) (λ i. bit m i || f i)) < zeros m)
unfolding tab bit
grow [] f = inl refl
grow (true ∷ m) f = elim (grow m (λ i. f (suc i))) [ inl e ↦ inl (ap (λ x. true ∷ x) e) | inr l ↦ inr l ]
grow (false ∷ m) f = go (f 0) (grow m (λ i. f (suc i)))
  where
    rest : List Bool
    rest = tab (length m) (λ i. bit m i || f (suc i))

    go : (b : Bool) → (rest ≡ m) ⊎ (zeros rest < zeros m) → ((b ∷ rest) ≡ (false ∷ m)) ⊎ (zeros (b ∷ rest) < suc (zeros m))
    go true (inl e) = inr (omega (arith, ap zeros e))
    go true (inr l) = inr (omega arith)
    go false (inl e) = inl (ap (λ x. false ∷ x) e)
    go false (inr l) = inr (omega arith)

pub grow_row : (W : ℕ) (m n : List Bool) → length m ≡ W → (or_row W m n ≡ m) ⊎ (zeros (or_row W m n) < zeros m)
grow_row W m n e =
    subst (λ w. (tab w (λ i. bit m i || bit n i) ≡ m) ⊎ (zeros (tab w (λ i. bit m i || bit n i)) < zeros m)) e (grow m (bit n))

-- two steps of which each is still, or falls
chain : (x y z : List Bool) → (y ≡ x) ⊎ (zeros y < zeros x) → (z ≡ y) ⊎ (zeros z < zeros y) → (z ≡ x) ⊎ (zeros z < zeros x)
chain x y z (inl e) (inl f) = inl (f ∙ e)
chain x y z (inl e) (inr l) = inr (omega (arith, ap zeros e))
chain x y z (inr l) (inl f) = inr (omega (arith, ap zeros f))
chain x y z (inr l) (inr h) = inr (omega arith)

-- two parts of which each is still, or falls
pair : {A B : Type 0} (f : A → ℕ) (g : B → ℕ) (x x' : A) (y y' : B)
    → (x' ≡ x) ⊎ (f x' < f x) → (y' ≡ y) ⊎ (g y' < g y) → (◌≡◌ {A = A × B} (x', y') (x, y)) ⊎ (f x' + g y' < f x + g y)
pair f g x x' y y' (inl d) (inl e) = inl (λ i. (d i, e i))
pair f g x x' y y' (inl d) (inr l) = inr (omega (arith, ap f d))
pair f g x x' y y' (inr l) (inl e) = inr (omega (arith, ap g e))
pair f g x x' y y' (inr l) (inr h) = inr (omega arith)

pub passes_fall : PassesFall
passes_fall t a W (leaf C) k m r w = inl refl
passes_fall t a W (many C) k m r w = inl refl
passes_fall t a W (plus C) k m r w = inl refl
passes_fall t a W eps k m r w = inl refl
passes_fall t a W (seq F G) k m r w =
    pair (room F) (room G) r.0 (regs (bits t a W) F k.0 r.0 m) r.1
    (regs (bits t a W) G k.1 r.1 (out (bits t a W) F k.0 r.0 m)) (passes_fall t a W F k.0 m r.0 w.0)
    (passes_fall t a W G k.1 (out (bits t a W) F k.0 r.0 m) r.1 w.1)
passes_fall t a W (alt F G) k m r w =
    pair (room F) (room G) r.0 (regs (bits t a W) F k.0 r.0 m) r.1 (regs (bits t a W) G k.1 r.1 m)
    (passes_fall t a W F k.0 m r.0 w.0) (passes_fall t a W G k.1 m r.1 w.1)
passes_fall t a W (opt F) k m r w = passes_fall t a W F k m r w
passes_fall t a W (star F) k m r w =
    let x : List Bool = (bits t a W).both r.0 m in
    let y : List Bool = out (bits t a W) F k r.1 x in
    pair zeros (room F) r.0 ((bits t a W).both x y) r.1 (regs (bits t a W) F k r.1 x)
    (chain r.0 x ((bits t a W).both x y) (grow_row W r.0 m w.0)
    (grow_row W x y (length-tab W (λ i. bit r.0 i || bit m i)))) (passes_fall t a W F k x r.1 w.1)
passes_fall t a W head k m r w = inl refl
passes_fall t a W tail k m r w = inl refl

wide_regs : (t : Streams) (a W : ℕ) (F : Pattern) (k : Carry F) (m : List Bool) (r : Regs (List Bool) F) → Wide W F (regs (bits t a W) F k r m)
wide_regs t a W (leaf C) k m r = tt
wide_regs t a W (many C) k m r = tt
wide_regs t a W (plus C) k m r = tt
wide_regs t a W eps k m r = tt
wide_regs t a W (seq F G) k m r = (wide_regs t a W F k.0 m r.0, wide_regs t a W G k.1 (out (bits t a W) F k.0 r.0 m) r.1)
wide_regs t a W (alt F G) k m r = (wide_regs t a W F k.0 m r.0, wide_regs t a W G k.1 m r.1)
wide_regs t a W (opt F) k m r = wide_regs t a W F k m r
wide_regs t a W (star F) k m r = (length-tab W _, wide_regs t a W F k ((bits t a W).both r.0 m) r.1)
wide_regs t a W head k m r = tt
wide_regs t a W tail k m r = tt

wide_blank : (W : ℕ) (F : Pattern) → Wide W F (blank (none_row W) F)
wide_blank W (leaf C) = tt
wide_blank W (many C) = tt
wide_blank W (plus C) = tt
wide_blank W eps = tt
wide_blank W (seq F G) = (wide_blank W F, wide_blank W G)
wide_blank W (alt F G) = (wide_blank W F, wide_blank W G)
wide_blank W (opt F) = wide_blank W F
wide_blank W (star F) = (length-tab W (λ i. false), wide_blank W F)
wide_blank W head = tt
wide_blank W tail = tt

wide_passes : (t : Streams) (a W : ℕ) (F : Pattern) (k : Carry F) (m : List Bool) (n : ℕ) → Wide W F (passes t a W F k m n)
wide_passes t a W F k m zero = wide_blank W F
wide_passes t a W F k m (suc n) = wide_regs t a W F k m (passes t a W F k m n)

pub zeros_blank : (W : ℕ) → zeros (none_row W) ≡ W
unfolding tab
zeros_blank zero = refl
zeros_blank (suc n) = ap suc (zeros_blank n)

room_blank : (W : ℕ) (F : Pattern) → room F (blank (none_row W) F) ≡ stars F * W
room_blank W (leaf C) = omega arith
room_blank W (many C) = omega arith
room_blank W (plus C) = omega arith
room_blank W eps = omega arith
room_blank W (seq F G) = omega (arith, room_blank W F, room_blank W G)
room_blank W (alt F G) = omega (arith, room_blank W F, room_blank W G)
room_blank W (opt F) = room_blank W F
room_blank W (star F) = omega (arith, room_blank W F, zeros_blank W)
room_blank W head = omega arith
room_blank W tail = omega arith

-- d passes more than n are enough, where d bounds the room that n have left
within : (t : Streams) (a W : ℕ) (F : Pattern) (k : Carry F) (m : List Bool) (d n : ℕ)
    → room F (passes t a W F k m n) ≤ d → (i : ℕ) × (i ≤ n + d) × Settled t a W F k m (passes t a W F k m i)
within t a W F k m zero n h =
    elim (passes_fall t a W F k m (passes t a W F k m n) (wide_passes t a W F k m n))
    [ inl e ↦ (n, omega arith, e) | inr l ↦ absurd (omega arith) ]
within t a W F k m (suc d) n h =
    elim (passes_fall t a W F k m (passes t a W F k m n) (wide_passes t a W F k m n)) [
      | inl e ↦ (n, omega arith, e)
      | inr l ↦ let y = within t a W F k m d (suc n) (omega arith) in (y.0, omega arith, y.2)
    ]

pub passes_end_lem : PassesEnd
passes_end_lem t a W F k m =
    let y = within t a W F k m (stars F * W) 0 (omega (arith, room_blank W F)) in (y.0, omega arith, y.2)
