-- `check_rows` tries the rules in order and names the first that is not kept. Assumes nothing.
use Rattle.std.proofs.Common.{◌≡◌, Err, rules, ◌∙◌}
use Rattle.meaning.specs.Rules.{failing_rule}
use Rattle.rules.proofs.Verdicts.{rule_fails, rule_kept}
use Rattle.rules.proofs.check_rows.Goals as goal

pub returns-in_err-passed : goal.returns-in_err-passed
unfolding failing_rule
returns-in_err-passed c =
    let q : c.from_residual.result ≡ Err c.in_err-passed.field-0.0 = search rules in
    rw q (rule_fails 1 _ c.rule_1.ensures _ c.in_err-passed.ensures)

pub returns-in_err-passed-2 : goal.returns-in_err-passed-2
unfolding failing_rule
returns-in_err-passed-2 c =
    let q : c.from_residual-in_err-passed-2.result ≡ Err c.in_err-passed-2.field-0.0 = search rules in
    rw q
    (rule_kept 1 _ c.rule_1.ensures c.in_ok-passed.ensures
    (rule_fails 2 _ c.rule_2.ensures _ c.in_err-passed-2.ensures))

pub returns-in_err-passed-3 : goal.returns-in_err-passed-3
unfolding failing_rule
returns-in_err-passed-3 c =
    let q : c.from_residual-in_err-passed-3.result ≡ Err c.in_err-passed-3.field-0.0 = search rules in
    rw q
    (rule_kept 1 _ c.rule_1.ensures c.in_ok-passed.ensures
    (rule_kept 2 _ c.rule_2.ensures c.in_ok-passed-2.ensures
    (rule_fails 3 _ c.rule_3.ensures _ c.in_err-passed-3.ensures)))

pub returns-in_err-passed-4 : goal.returns-in_err-passed-4
unfolding failing_rule
returns-in_err-passed-4 c =
    let q : c.from_residual-in_err-passed-4.result ≡ Err c.in_err-passed-4.field-0.0 = search rules in
    rw q
    (rule_kept 1 _ c.rule_1.ensures c.in_ok-passed.ensures
    (rule_kept 2 _ c.rule_2.ensures c.in_ok-passed-2.ensures
    (rule_kept 3 _ c.rule_3.ensures c.in_ok-passed-3.ensures
    (rule_fails 4 _ c.rule_4.ensures _ c.in_err-passed-4.ensures))))

pub returns-in_err-passed-5 : goal.returns-in_err-passed-5
unfolding failing_rule
returns-in_err-passed-5 c =
    let q : c.from_residual-in_err-passed-5.result ≡ Err c.in_err-passed-5.field-0.0 = search rules in
    rw q
    (rule_kept 1 _ c.rule_1.ensures c.in_ok-passed.ensures
    (rule_kept 2 _ c.rule_2.ensures c.in_ok-passed-2.ensures
    (rule_kept 3 _ c.rule_3.ensures c.in_ok-passed-3.ensures
    (rule_kept 4 _ c.rule_4.ensures c.in_ok-passed-4.ensures
    (rule_fails 5 _ c.rule_5.ensures _ c.in_err-passed-5.ensures)))))

pub returns-in_err-passed-6 : goal.returns-in_err-passed-6
unfolding failing_rule
returns-in_err-passed-6 c =
    let q : c.from_residual-in_err-passed-6.result ≡ Err c.in_err-passed-6.field-0.0 = search rules in
    rw q
    (rule_kept 1 _ c.rule_1.ensures c.in_ok-passed.ensures
    (rule_kept 2 _ c.rule_2.ensures c.in_ok-passed-2.ensures
    (rule_kept 3 _ c.rule_3.ensures c.in_ok-passed-3.ensures
    (rule_kept 4 _ c.rule_4.ensures c.in_ok-passed-4.ensures
    (rule_kept 5 _ c.rule_5.ensures c.in_ok-passed-5.ensures
    (rule_fails 6 _ c.rule_6.ensures _ c.in_err-passed-6.ensures))))))

pub returns : goal.returns
unfolding failing_rule
returns c =
    rule_kept 1 _ c.rule_1.ensures c.in_ok-passed.ensures
    (rule_kept 2 _ c.rule_2.ensures c.in_ok-passed-2.ensures
    (rule_kept 3 _ c.rule_3.ensures c.in_ok-passed-3.ensures
    (rule_kept 4 _ c.rule_4.ensures c.in_ok-passed-4.ensures
    (rule_kept 5 _ c.rule_5.ensures c.in_ok-passed-5.ensures
    (rule_kept 6 _ c.rule_6.ensures c.in_ok-passed-6.ensures
    (c.passed-7.ensures ∙ rw c.rule_7.ensures))))))
