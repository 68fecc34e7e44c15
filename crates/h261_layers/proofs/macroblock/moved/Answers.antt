-- `h261_layers::macroblock::moved` meets its contract: no vector, one after zero, or one after the vector that is behind.
use Rattle.h261_layers.proofs.MacroblockSteps.{optional-not, moved_anew, moved_on}
use Rattle.h261_groups.specs.Format.{Addressed}
use Rattle.h261_words.specs.Words.{is_mc}
use Rattle.layout.specs.Value.{zero_vector}
use Rattle.h261_description.specs.Vector.{preceding}
use Rattle.h261_layers.specs.Vector.{vector_read}
use Rattle.h261_layers.specs.Answer.{before_of}
use Rattle.h261_layers.specs.Ready.{Stepped}
use Rattle.h261_layers.specs.declared.Behind.{Behind}
use native.Mathlib.Omega.{arith}
use Prim.Native.Nat.{ℕ, ◌+◌}
use Rattle.h261_layers.proofs.macroblock.moved.Goals as goal

addressed : {number step : ℕ} {behind : Behind} → Stepped number behind step → Addressed number (behind.address + step)
addressed h = record { first_group = h.first_group; last_group = h.last_group; first_address = omega (arith, h.ahead); last_address = h.last_address }

pub overflow_add-address : goal.overflow_add-address
overflow_add-address c = omega (arith, c.requires.1.last_address)

pub restarts-requires : goal.restarts-requires
restarts-requires c = c.requires.1.last_address

pub vector-requires : goal.vector-requires
vector-requires c =
    (c.requires.0, record { addressed = addressed c.requires.1; horizontally = record { low = omega arith; high = omega arith }; vertically = record { low = omega arith; high = omega arith } })

pub returns-then-restarts : goal.returns-then-restarts
returns-then-restarts c =
    moved_anew c.args.format c.args.number (before_of c.args.behind) c.args.step c.is_mc.result c.restarts.result _ _
    (is_mc c.args.mtype) c.is_mc.ensures _ c.restarts.ensures c.if-is_mc.true c.if-restarts.true c.vector.ensures

pub vector-requires-then-is_mc : goal.vector-requires-then-is_mc
vector-requires-then-is_mc c =
    let stepped = c.requires.1 in
    (c.requires.0, record { addressed = addressed stepped; horizontally = stepped.kept.horizontally; vertically = stepped.kept.vertically })

pub returns-then-is_mc : goal.returns-then-is_mc
returns-then-is_mc c =
    moved_on c.args.format c.args.number (before_of c.args.behind) c.args.step c.is_mc.result c.restarts.result _ _
    (is_mc c.args.mtype) c.is_mc.ensures _ c.restarts.ensures c.if-is_mc.true c.if-restarts.false c.vector-then-is_mc.ensures

pub returns : goal.returns
returns c =
    let address = c.args.behind.address + c.args.step in
    let before = preceding (before_of c.args.behind) c.args.step in
    optional-not (is_mc c.args.mtype) c.is_mc.result zero_vector (vector_read c.args.format c.args.number address before) _ _ c.is_mc.ensures c.if-is_mc.false
