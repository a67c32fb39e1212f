-- `of` goes by the number. Assumes nothing.
use Rattle.plan_rows.specs.Codes.{code_of}
use Rattle.plan_rows.proofs.Codes.{no_code}
use Rattle.plan_rows.proofs.code.Code.of.Goals as goal

pub returns-in-1 : goal.returns-in-1
unfolding code_of
returns-in-1 c = rw c.in-1.is

pub returns-in-2 : goal.returns-in-2
unfolding code_of
returns-in-2 c = rw c.in-2.is

pub returns-in-3 : goal.returns-in-3
unfolding code_of
returns-in-3 c = rw c.in-3.is

pub returns-in-4 : goal.returns-in-4
unfolding code_of
returns-in-4 c = rw c.in-4.is

pub returns-in-5 : goal.returns-in-5
unfolding code_of
returns-in-5 c = rw c.in-5.is

pub returns-in-6 : goal.returns-in-6
unfolding code_of
returns-in-6 c = rw c.in-6.is

pub returns-in-7 : goal.returns-in-7
unfolding code_of
returns-in-7 c = rw c.in-7.is

pub returns-in-8 : goal.returns-in-8
unfolding code_of
returns-in-8 c = rw c.in-8.is

pub returns-in-9 : goal.returns-in-9
unfolding code_of
returns-in-9 c = rw c.in-9.is

pub returns-in-10 : goal.returns-in-10
unfolding code_of
returns-in-10 c = rw c.in-10.is

pub returns-in-11 : goal.returns-in-11
unfolding code_of
returns-in-11 c = rw c.in-11.is

pub returns-in_default : goal.returns-in_default
unfolding code_of
returns-in_default c =
    let r = c.in_default.in_default-own.rest in
    no_code _ r.0.0.0.0.0.0.0.0.0.0.1 r.0.0.0.0.0.0.0.0.0.1 r.0.0.0.0.0.0.0.0.1
    r.0.0.0.0.0.0.0.1 r.0.0.0.0.0.0.1 r.0.0.0.0.0.1 r.0.0.0.0.1 r.0.0.0.1 r.0.0.1
    r.0.1 r.1
