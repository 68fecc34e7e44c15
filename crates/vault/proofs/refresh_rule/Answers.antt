-- `vault::refresh_rule` meets its contract. Assumes nothing.
use Rattle.vault.proofs.refresh_rule.Goals as goal

pub returns-then-header : goal.returns-then-header
returns-then-header c = rw c.if-header.true
