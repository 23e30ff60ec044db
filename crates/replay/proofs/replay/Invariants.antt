use Rattle.std.proofs.Common.{◌≡◌, [], length, take}
use Rattle.history.specs.Rules.{Lawful}
use Rattle.search.specs.Telling.{Tells}
use Rattle.replay.specs.Recorded.{goes_on}
use Rattle.replay.proofs.replay.Given as goal

abbrev pub invariant-loop-request : goal.invariant-loop-request
invariant-loop-request g l = record {
  long : length l.blocks ≡ length l.initial.blocks;
  answered : length l.answers.items ≡ l.request-index;
  tells : Tells g.B.Block.row g.B.Block.places l.search (goes_on g.B.Block.row g.B.Block.places (length l.initial.blocks) [] (take l.request-index l.requests) l.answers.items);
  lawful : Lawful g.B.Block.places (goes_on g.B.Block.row g.B.Block.places (length l.initial.blocks) [] (take l.request-index l.requests) l.answers.items);
}
