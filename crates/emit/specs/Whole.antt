-- What was compiled from a form. Assumes nothing.
use Rattle.std.specs.Prelude.{◌≡◌, List}
use Rattle.form.specs.Form.{Form}
use Rattle.theory.specs.Passes.{stars}
use Rattle.theory.specs.Written.{classes, written}
use Rattle.stream.specs.declared.set.ByteSet.{ByteSet}
use Rattle.program.specs.declared.Step.{Step}
use Rattle.program.specs.Numbered.{leaves}
use Rattle.program.specs.Sizes.{class_count, form_program, form_rows}
use Rattle.classes.specs.Numbered.{sets_of, Are}
use Rattle.emit.specs.Coding.{steps_of}
use Rattle.emit.specs.declared.compiled.Compiled.{Compiled}
use Rattle.emit.specs.declared.compiled.Sizes.{Sizes}

abbrev pub program_of : Compiled → List Step
program_of x = steps_of x.code

abbrev pub table_of : Compiled → List ByteSet
table_of x = sets_of x.table

-- x holds the program of the form F and the sets of its classes, and n is what they need
pub record CompiledFrom (F : Form) (x : Compiled) (n : Sizes) : Type 0 where
  pub program : program_of x ≡ form_program F
  pub sets : Are (table_of x) (classes F)
  pub classes : n.classes ≡ class_count F
  pub stars : n.stars ≡ stars (written F)
  pub carries : n.carries ≡ leaves (written F)
  pub rows : n.rows ≡ form_rows F
