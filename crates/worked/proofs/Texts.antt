-- The tokens of the worked texts, and the forms that they stand for. Assumes nothing.
use Rattle.std.proofs.Common.{true, [], ◌∷◌, codes, refl, lit<, lit≤}
use Rattle.lexer.specs.Tokens.{opening, closing, word, quote}
use Rattle.form.specs.Form.{quote as quoted}
use Rattle.form.specs.Worked.{filled, between, not_dot, nested}
use Rattle.grammar.specs.Grammar.{Text}

pub empty_text : Text true (quoted []) (opening ∷ word (codes "seek") ∷ quote [] ∷ closing ∷ [])
empty_text = (_, (lit< tt, refl), refl)

pub filled_text :
    Text true filled
    (opening ∷ word (codes "seek") ∷ opening ∷ word (codes "seq")
    ∷ opening ∷ word (codes "start") ∷ closing
    ∷ opening ∷ word (codes "star") ∷ quote (codes "#") ∷ closing
    ∷ opening ∷ word (codes "end") ∷ closing
    ∷ closing ∷ closing ∷ [])
filled_text =
    (_, (lit< tt, refl), (_, (lit< tt, refl), (_, (lit< tt, refl), (_, (_, (lit< tt, refl), refl), (_, (lit< tt, refl), refl)))))

pub between_text :
    Text true between
    (opening ∷ word (codes "seek") ∷ opening ∷ word (codes "seq") ∷ quote (codes ".")
    ∷ opening ∷ word (codes "rep") ∷ word (codes "2") ∷ word (codes "3") ∷ quote (codes "#") ∷ closing
    ∷ quote (codes ".") ∷ closing ∷ closing ∷ [])
between_text =
    (_, (lit< tt, refl), (_, (lit< tt, refl), (_, refl, (_, (_, _, _, (lit< tt, refl), refl, refl, (lit≤ tt, lit≤ tt), refl), (_, refl, refl)))))

pub not_dot_text : Text true not_dot (opening ∷ word (codes "seek") ∷ opening ∷ word (codes "out") ∷ word (codes "2E") ∷ closing ∷ closing ∷ [])
not_dot_text = (_, (lit< tt, refl), (_, (lit< tt, refl), (_, _, refl, refl, lit≤ tt, refl)))

pub nested_text :
    Text true nested
    (opening ∷ word (codes "seek") ∷ opening ∷ word (codes "star") ∷ opening ∷ word (codes "star") ∷ quote (codes "a")
    ∷ closing ∷ closing ∷ closing ∷ [])
nested_text = (_, (lit< tt, refl), (_, (lit< tt, refl), (_, (lit< tt, refl), refl)))
