-- `arguments::clip_named` meets its contract. The loop's invariant: what is left, after the number so far, names what the whole names. Assumes nothing.
use Prim.Native.Nat.{◌≤◌}
use mathlib.Core.Path.{◌≡◌}
use lib.ListN.{drop}
use Rattle.arguments.specs.Words.{clip_after, clip_named}
use Rattle.arguments.proofs.clip_named.Given as goal

abbrev pub invariant-loop-c : goal.invariant-loop-c
invariant-loop-c l = (l.n ≤ 65535) × (clip_named l.word ≡ clip_after l.n (drop l.c-index l.word))
