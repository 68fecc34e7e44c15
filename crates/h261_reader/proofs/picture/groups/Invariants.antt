-- `h261_reader::picture::groups` meets its contract: by turns over the groups, and within each over its macroblocks; the ways out meet in `left`.
use Prim.Native.Nat.{◌+◌, ◌-◌}
use mathlib.Core.Path.{◌≡◌}
use lib.Dec.{eqb}
use Rattle.std.proofs.Common.{None}
use Rattle.h261_groups.specs.Format.{group_count}
use Rattle.layout.specs.Flat.{flat}
use Rattle.h261_reader.proofs.PictureTurn.{InGroup, PictureSoFar, groups_laid}
use Rattle.h261_reader.proofs.picture.groups.Given as goal

abbrev pub invariant-group : goal.invariant-group
invariant-group l = (l.stopped ≡ None) × InGroup l.bytes l.count l.format (eqb (l.group + 1) (group_count l.format)) l.number l.group l.head l.initial.macroblocks l.initial.levels l.initial.place l.macroblocks l.levels l.behind l.place

abbrev pub decreases-group : goal.decreases-group
decreases-group l = l.count - l.place.bit

abbrev pub invariant-picture : goal.invariant-picture
invariant-picture l = (l.stopped ≡ None) × PictureSoFar (groups_laid l.format l.bytes l.count l.initial.place (flat l.initial.head l.initial.macroblocks l.initial.levels)) l.bytes l.count l.format l.head l.macroblocks l.levels l.group l.place
