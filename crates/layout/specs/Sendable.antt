-- A coefficient that can be sent, in both standards. Assumes nothing.
use Rattle.std.specs.Prelude.{◌≡◌, false, ◌<◌, ◌≤◌}
use Rattle.layout.specs.Value.{Coefficient}
use Rattle.layout.specs.Numbers.{forbidden}

-- "Levels 0 and -128 .. are forbidden."
pub record Sendable (c : Coefficient) : Type 0 where
  pub run : c.run ≤ 63
  pub byte : c.code < 256
  pub level : forbidden c.code ≡ false
