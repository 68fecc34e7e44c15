-- `pace::frames_between` meets its contract: by whether step was kept. Assumes nothing.
use borrow.Author.Rules.{rules}
use Rattle.pace.specs.Between.{frames_between}
use Rattle.std.proofs.Common.{rules}
use Rattle.pace.proofs.frames_between.Goals as goal

pub returns-then-kept_step : goal.returns-then-kept_step
unfolding frames_between
returns-then-kept_step c = search rules

pub returns : goal.returns
unfolding frames_between
returns c = search rules
