-- What a walk over a form's nodes writes. Assumes nothing.
use Rattle.std.specs.Prelude.{◌≡◌, ℕ, ◌+◌, ◌≤◌, Bool, true, false}
use Rattle.form.specs.Form.{Forms, nil, cons}
use Rattle.theory.specs.Pattern.{Pattern, leaf, many, plus, eps, seq, alt, opt, star, head, tail}
use Rattle.theory.specs.Written.{stretch}
use Rattle.emit.specs.Coding.{Writes, top}
use Rattle.emit.specs.declared.code.Code.{Code}
use Rattle.emit.specs.declared.place.Place.{Place}

abbrev pub is_leaf : Pattern → Bool
is_leaf (leaf c) = true
is_leaf (many c) = false
is_leaf (plus c) = false
is_leaf eps = false
is_leaf (seq F G) = false
is_leaf (alt F G) = false
is_leaf (opt F) = false
is_leaf (star F) = false
is_leaf head = false
is_leaf tail = false

abbrev pub is_nil : Forms → Bool
is_nil nil = true
is_nil (cons f fs) = false

-- the pattern's steps were written, stretched as its place says, and its n classes have the numbers from `class` to before r
abbrev pub Walks : (class n r : ℕ) → Place → Pattern → Code → Code → Type 0
Walks class n r place P x y =
    class + n ≤ top → (r ≡ class + n) × Writes place.into place.depth (stretch place.first place.last P) x y
