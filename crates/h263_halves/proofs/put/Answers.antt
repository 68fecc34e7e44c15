-- `h263_halves::put` meets its contract: by its four cases. Assumes nothing.
use mathlib.Core.Path.{◌≡◌}
use Prim.Native.Nat.{ℕ, ◌≤◌}
use native.Mathlib.Omega.{arith}
use borrow.Author.Rules.{rules}
use Rattle.h263_halves.proofs.Half.{put_whole, put_case, room_here, halves_case}
use Rattle.h263_halves.proofs.put.Goals as goal

is_one : {n : ℕ} → n ≤ 1 → (n ≡ 0 → ⊥) → n ≡ 1
is_one l n = omega arith

pub copy-requires : goal.copy-requires
copy-requires c =
    record { most = search rules; source = room_here c.requires; target = c.requires.target }

pub returns-then-down-eq0 : goal.returns-then-down-eq0
returns-then-down-eq0 c =
    let a = c.args in
    put_case a.reference.now a.from a.stride c.if-right-eq0.true c.if-down-eq0.true (put_whole a.reference.now a.from a.stride c.copy.ensures)

pub put_down-requires : goal.put_down-requires
put_down-requires c =
    halves_case c.requires c.if-right-eq0.true (is_one c.requires.lowest c.if-down-eq0.false)

pub returns-then-right-eq0 : goal.returns-then-right-eq0
returns-then-right-eq0 c =
    let a = c.args in
    put_case a.reference.now a.from a.stride c.if-right-eq0.true (is_one c.requires.lowest c.if-down-eq0.false) c.put_down.ensures

pub put_right-requires : goal.put_right-requires
put_right-requires c =
    halves_case c.requires (is_one c.requires.rightmost c.if-right-eq0.false) c.if-down-eq0-2.true

pub returns-then-down-eq0-2 : goal.returns-then-down-eq0-2
returns-then-down-eq0-2 c =
    let a = c.args in
    put_case a.reference.now a.from a.stride (is_one c.requires.rightmost c.if-right-eq0.false) c.if-down-eq0-2.true c.put_right.ensures

pub put_both-requires : goal.put_both-requires
put_both-requires c =
    halves_case c.requires (is_one c.requires.rightmost c.if-right-eq0.false) (is_one c.requires.lowest c.if-down-eq0-2.false)

pub returns : goal.returns
returns c =
    let a = c.args in
    put_case a.reference.now a.from a.stride (is_one c.requires.rightmost c.if-right-eq0.false) (is_one c.requires.lowest c.if-down-eq0-2.false) c.put_both.ensures
