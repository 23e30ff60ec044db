use Rattle.runlist.proofs.Ones.{no_wrap, ones_within, ones_below, ones_above}
use Rattle.runlist.proofs.with_ones.Goals as goal

pub overflow_sub-ones : goal.overflow_sub-ones
overflow_sub-ones c = no_wrap c.args.byte c.args.low c.args.high c.requires.0 c.requires.1

pub returns : goal.returns
returns c =
    let b = c.args.byte in
    let low = c.args.low in
    let high = c.args.high in
    record {
      within = ones_within b low high c.requires.0 c.requires.1;
      below = ones_below b low high c.requires.0 c.requires.1;
      above = ones_above b low high c.requires.0 c.requires.1;
    }
