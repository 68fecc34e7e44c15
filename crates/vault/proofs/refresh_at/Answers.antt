-- `vault::refresh_at` meets its contract. Assumes nothing.
use Rattle.vault.proofs.refresh_at.Goals as goal

pub returns-then-refresh : goal.returns-then-refresh
returns-then-refresh c = rw c.if-refresh.true
