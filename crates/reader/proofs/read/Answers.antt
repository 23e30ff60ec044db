use Rattle.std.proofs.Common.{inl}
use Rattle.tree.proofs.Only.{stands_once}
use Rattle.std.proofs.lemmas.Result.{MatchResult-weaker}
use Rattle.grammar.proofs.Decided.{one_verdict}
use Rattle.reader.proofs.read.Goals as goal

pub returns : goal.returns
returns c =
    record {
      settles =
          MatchResult-weaker c.whole.result c.whole.ensures
          (λ i h. (h.0, inl (c.if-text-gt-LONGEST.false, h.1), h.2, λ g k. stands_once _ g h.0 i k h.2))
          (λ e h. inl (c.if-text-gt-LONGEST.false, h));
      once = one_verdict _;
    }
