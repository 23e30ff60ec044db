use Rattle.form.proofs.Running.{early_exist, early_unique, early_first, early_grow, closed_ends, early_positions, early_none, early_next}
use Rattle.form.proofs.early_ends_stand.Goals as goal

pub returns : goal.returns
returns c =
    record {
      exist = early_exist;
      unique = early_unique;
      first = early_first;
      grow = early_grow;
      closed = closed_ends;
      positions = early_positions;
      none = early_none;
      next = early_next;
    }
