-- `reader::read::read_rows` meets its contract: each way out is a law of the files beside. Assumes nothing.
use Rattle.reader.proofs.ReadLaws.{rows_long, rows_fault, rows_few, rows_done, all_zero, zero_again, scanned_at, zero_length, few_at}
use Rattle.reader.proofs.ReadLaws.{enough_at, zeros_are}
use Rattle.reader.proofs.read.read_rows.Goals as goal

pub returns-then-text-gt-TEXT : goal.returns-then-text-gt-TEXT
returns-then-text-gt-TEXT c = rows_long _ _ _ c.if-text-gt-TEXT.true (zeros_are _ _ (c.fill.ensures.after (λ y h. h)))

pub walk-r-requires : goal.walk-r-requires
walk-r-requires c = all_zero _ _ (zeros_are _ _ (c.fill.ensures.after (λ y h. h)))

pub returns-then-r-ne0 : goal.returns-then-r-ne0
returns-then-r-ne0 c =
    let q = scanned_at (zero_length _ _ (zeros_are _ _ (c.fill.ensures.after (λ y h. h))))
    c.walk-r.ensures in rows_fault _ _ c.if-text-gt-TEXT.false _ _
    q _ c.if-r-ne0.true (zero_again _ _ _ q.size (zeros_are _ _ (c.fill-then-r-ne0.ensures.after (λ y h. h))))

pub returns-then-chart-lt-VALUE : goal.returns-then-chart-lt-VALUE
returns-then-chart-lt-VALUE c =
    let q = scanned_at (zero_length _ _ (zeros_are _ _ (c.fill.ensures.after (λ y h. h))))
    c.walk-r.ensures in rows_few _ _
    c.if-text-gt-TEXT.false _ _ q c.if-r-ne0.false _
    (few_at q.size c.if-chart-lt-VALUE.true)
    (zero_again _ _ _ q.size (zeros_are _ _ (c.fill-then-chart-lt-VALUE.ensures.after (λ y h. h))))

pub returns : goal.returns
returns c =
    let q = scanned_at (zero_length _ _ (zeros_are _ _ (c.fill.ensures.after (λ y h. h))))
    c.walk-r.ensures in rows_done _ _ c.if-text-gt-TEXT.false _ _ q
    c.if-r-ne0.false (enough_at q.size c.if-chart-lt-VALUE.false)
