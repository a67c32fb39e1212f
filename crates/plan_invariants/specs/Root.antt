-- What keeps the root's mark (01, answer 6: "the plan machine tests only: root active, .."): a well-formed plan need not, so these are
-- tests of their own. Assumes nothing.
use Rattle.std.specs.Prelude.{Bool, false, not, List, [], ◌∷◌, take, eqb}
use Rattle.meaning.specs.Lists.{every}
use Rattle.meaning.specs.Plan.{Plan}
use Rattle.meaning.specs.declared.plan.Instr.{Instr}
use Rattle.meaning.specs.declared.plan.Instr.TheVariants.{Does as does, In as go_in, Out as go_out, SkipEmpty as skip_empty}
use Rattle.meaning.specs.declared.plan.Instr.TheVariants.{SkipFull as skip_full, SkipNot as skip_not, SkipOut as skip_out}

-- OUT 0
unfoldable pub leaves_root : Instr → Bool
leaves_root (go_in s) = false
leaves_root (go_out s p) = eqb s 0
leaves_root (skip_out s n) = false
leaves_root (skip_empty s n) = false
leaves_root (skip_full s n) = false
leaves_root (skip_not s d n) = false
leaves_root (does x) = false

-- no instruction leaves the root
unfoldable pub never_leaves_root : Plan → Bool
never_leaves_root p = every (λ i. not (leaves_root i)) p.code

-- IN 0
unfoldable pub enters_root : Instr → Bool
enters_root (go_in s) = eqb s 0
enters_root (go_out s p) = false
enters_root (skip_out s n) = false
enters_root (skip_empty s n) = false
enters_root (skip_full s n) = false
enters_root (skip_not s d n) = false
enters_root (does x) = false

unfoldable pub begins_in_root : List Instr → Bool
begins_in_root [] = false
begins_in_root (i ∷ is) = enters_root i

-- the start block's first instruction is IN 0, so that no skip passes it over
unfoldable pub starts_in_root : Plan → Bool
starts_in_root p = begins_in_root (take p.start_length p.code)
