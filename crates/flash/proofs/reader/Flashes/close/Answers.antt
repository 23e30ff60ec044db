use Rattle.std.proofs.Common.{◌≡◌, Bool, true, false, List, [], ◌∷◌, refl, ap, ◌∙◌}
use Rattle.std.specs.Bool.{then_some}
use Rattle.std.specs.Option.{option_to_list}
use Rattle.flash.proofs.Pieces.{close_none, close_some}
use Rattle.flash.proofs.reader.Flashes.close.Goals as goal

-- what a value that is there or not is as a list
listed : {A : Type 0} (b : Bool) (x : A) (l : List A) → (b ≡ true → x ∷ [] ≡ l) → (b ≡ false → [] ≡ l) → option_to_list (then_some b x) ≡ l
listed true x l is none = is refl
listed false x l is none = none refl

pub returns : goal.returns
returns c b t all =
    ap option_to_list c.then_some.ensures
    ∙ listed c.args.self.lit c.end.result _ (λ q. ap (λ e. e ∷ []) c.end.ensures ∙ close_some c.args.self b t all q) (close_none c.args.self b t all)
