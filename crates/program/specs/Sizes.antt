-- What the program of a form needs: rows, rows that keep marks, and carries. Assumes nothing.
use Rattle.std.specs.Prelude.{◌≡◌, ℕ, suc, ◌+◌, ◌*◌, ◌≤◌, max, List, length}
use Rattle.form.specs.Form.{Form, Forms, quote, set, out, seq, or, star, rep, start, end, nil, cons, weight}
use Rattle.theory.specs.Written.{classes, written}
use Rattle.program.specs.declared.Step.{Step}
use Rattle.program.specs.Numbered.{leaves, Classed}
use Rattle.program.specs.Compile.{classes_at, depth, program, rows_for}

-- the program of a form
abbrev pub class_count : Form → ℕ
class_count F = length (classes F)

abbrev pub form_program : Form → List Step
form_program F = program (class_count F) (written F)

abbrev pub form_rows : Form → ℕ
form_rows F = rows_for (class_count F) (written F)

-- how deep the brackets of a form nest
abbrev mutual
  pub brackets : Form → ℕ
  brackets (quote bytes) = 0
  brackets (set items) = 1
  brackets (out items) = 1
  brackets (seq parts) = suc (widest parts)
  brackets (or parts) = suc (widest parts)
  brackets (star part) = suc (brackets part)
  brackets (rep least most part) = suc (brackets part)
  brackets start = 1
  brackets end = 1

  pub widest : Forms → ℕ
  widest nil = 0
  widest (cons part parts) = max (brackets part) (widest parts)

-- the bits that a form carries over a border: one for each set, each out and each quoted byte, counted `most` times inside a repeat
abbrev mutual
  pub carried : Form → ℕ
  carried (quote bytes) = length bytes
  carried (set items) = 1
  carried (out items) = 1
  carried (seq parts) = all_carried parts
  carried (or parts) = all_carried parts
  carried (star part) = carried part
  carried (rep least most part) = most * carried part
  carried start = 0
  carried end = 0

  pub all_carried : Forms → ℕ
  all_carried nil = 0
  all_carried (cons part parts) = carried part + all_carried parts

-- a union has a part, and no repeat has a least above its most
abbrev mutual
  pub Proper : Form → Type 0
  Proper (quote bytes) = Unit {0}
  Proper (set items) = Unit {0}
  Proper (out items) = Unit {0}
  Proper (seq parts) = AllProper parts
  Proper (or parts) = Some parts × AllProper parts
  Proper (star part) = Proper part
  Proper (rep least most part) = (least ≤ most) × Proper part
  Proper start = Unit {0}
  Proper end = Unit {0}

  pub AllProper : Forms → Type 0
  AllProper nil = Unit {0}
  AllProper (cons part parts) = Proper part × AllProper parts

  pub Some : Forms → Type 0
  Some nil = ⊥
  Some (cons part parts) = Unit {0}

-- the classes are numbered
abbrev pub FormClassed : Type 0
FormClassed = (F : Form) → Classed (class_count F) (written F)

-- the rows are within the weight
abbrev pub FormRows : Type 0
FormRows = (F : Form) → form_rows F ≤ classes_at + weight F

-- marks are kept no deeper than brackets nest
abbrev pub FormDepth : Type 0
FormDepth = (F : Form) → depth (written F) ≤ brackets F

-- a form as the grammar gives it carries no other bits
abbrev pub FormCarries : Type 0
FormCarries = (F : Form) → Proper F → leaves (written F) ≡ carried F
