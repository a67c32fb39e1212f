-- `key_of`: the place of an owner by its kind. Assumes nothing.
use native.Mathlib.Omega.{arith}
use Rattle.acts.proofs.index.key_of.Goals as goal

pub overflow_add-result : goal.overflow_add-result
overflow_add-result c = let o = rw c.in-ExitOf.is at c.requires in omega arith

pub overflow_add-result-in-DefaultOf : goal.overflow_add-result-in-DefaultOf
overflow_add-result-in-DefaultOf c = let o = rw c.in-DefaultOf.is at c.requires in omega arith

pub overflow_add-result-in-TransitionOf : goal.overflow_add-result-in-TransitionOf
overflow_add-result-in-TransitionOf c = let o = rw c.in-TransitionOf.is at c.requires in omega arith

pub returns-in-ExitOf : goal.returns-in-ExitOf
returns-in-ExitOf c = rw c.in-ExitOf.is

pub returns-in-DefaultOf : goal.returns-in-DefaultOf
returns-in-DefaultOf c = rw c.in-DefaultOf.is

pub returns-in-TransitionOf : goal.returns-in-TransitionOf
returns-in-TransitionOf c = rw c.in-TransitionOf.is
