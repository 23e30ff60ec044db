-- Carries by number. Assumes nothing.
use Rattle.std.proofs.Common.{◌≡◌, ℕ, ◌<◌, false, List, length, get_or, set, replicate, ap, ◌∙◌, arith, get_or-set_other, get_or-set_same}
use native.Mathlib.Decide.{dec_lt}
use Rattle.std.proofs.lemmas.List.{get_or-replicate, get_or_past, length-replicate}
use Rattle.program.specs.Machine.{put}
use Rattle.machine.specs.Carrying.{no_carry}
use Rattle.machine.specs.declared.carries.Carry.{Carry}
use Rattle.machine.proofs.Writes.{put_is}

-- no bit is set where each carry is the same without one
pub none_enters : (n : ℕ) (c : Carry) → c.enter ≡ false → (bits : List Carry) → bits ≡ replicate n c → (k : ℕ) → (get_or bits k no_carry).enter ≡ false
none_enters n c e bits all k =
    ap (λ l. (get_or l k no_carry).enter) all
    ∙ elim (dec_lt k n) [
      | yes h ↦ ap (λ (x : Carry). x.enter) (get_or-replicate n k c no_carry h) ∙ e
      | no h ↦ ap (λ (x : Carry). x.enter) (get_or_past (replicate n c) k no_carry (omega (arith, length-replicate n c)))
    ]

-- a bit that is kept
pub left_put : (bits : List Carry) (k : ℕ) (c : Carry) → k < length bits
    → (λ (i : ℕ). (get_or (set bits k c) i no_carry).leave) ≡ put (λ (i : ℕ). (get_or bits i no_carry).leave) k c.leave
left_put bits k c h =
    put_is _ k c.leave _ (ap (λ (x : Carry). x.leave) (get_or-set_same bits k c no_carry h)) (λ i n. ap (λ (x : Carry). x.leave) (get_or-set_other bits k i c no_carry n))
