-- `emit` writes the three numbers after the first ones, or finds no room. Assumes nothing.
use Rattle.std.proofs.Common.{◌≡◌, refl, length, get_or, pos, rules, arith}
use mir.Syntax.{w32}
use mir.Val.{SFits}
use mir.Facts.{to_z-of_z}
use Rattle.widget.proofs.Noting.{no_room, noted_all}
use Rattle.widget.proofs.emit.Goals as goal

pub returns-then-trace-at-lt-ENTRY : goal.returns-then-trace-at-lt-ENTRY
returns-then-trace-at-lt-ENTRY c = no_room _ _ _ c.requires (omega arith)

pub returns : goal.returns
returns c =
    let ns = c.args.three in
    let long : length ns ≡ 3 = search rules in
    let a : SFits w32 (get_or ns 0 (pos 0)) = search rules in
    let b : SFits w32 (get_or ns 1 (pos 0)) = search rules in
    let d : SFits w32 (get_or ns 2 (pos 0)) = search rules in
    noted_all _ _ ns _ _ _ long (to_z-of_z a) (to_z-of_z b) (to_z-of_z d) c.requires (omega arith) refl
