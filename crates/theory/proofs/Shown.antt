-- The ends that blocks show are the ends of the recording. Assumes nothing.
use native.Mathlib.Omega.{arith}
use Rattle.form.proofs.Running.{early_positions, closed_positions}
use Rattle.theory.specs.Shown.{OpenBlocks, ClosingBlocks}
use Rattle.theory.proofs.Written.{written_blocks}

pub open_blocks : OpenBlocks
open_blocks F bytes rest t agree W w n blocks l settled e h =
    let m = written_blocks F t W w n blocks settled e.position h in
    let y = early_positions bytes rest F t agree e (omega arith) in (
      λ x. let z = y.0 x in record { marked = m.1 z.0; place = z.1 },
      λ x. y.1 (m.0 x.marked, x.place),
    )

pub closing_blocks : ClosingBlocks
closing_blocks F recording t agree W w n blocks l settled e =
    let y = closed_positions recording F t agree e in (
      λ x.
          let z = y.0 x in
          let m = written_blocks F t W w n blocks settled e.position (omega arith) in
          (z.0, record { marked = m.1 z.1; place = z.2 }),
      λ x.
          let m = written_blocks F t W w n blocks settled e.position (omega arith) in
          y.1 (x.0, m.0 x.1.marked, x.1.place),
    )
