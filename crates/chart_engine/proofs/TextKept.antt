-- The promises of chart text kept: what the inner reader and writer give, as the promise has it. Assumes nothing.
use mathlib.Core.Path.{◌≡◌}
use Prim.Native.Nat.{ℕ}
use mathlib.Core.List.{List}
use lib.IntN.{ℤ}
use lib.ListN.{length, replicate}
use Rattle.meaning.specs.declared.Answer.{Answer}
use Rattle.meaning.specs.declared.Written.{Written}
use Rattle.meaning.specs.Text.{read, write, answer_of, written, lent_numbers, lent_bytes}
use Rattle.promises.specs.Promises.{Checked, Read, Wrote}
use Rattle.writer.proofs.WriteLaws.{wrote_refused}

pub reads : {text : List ℕ} {chart after : List ℤ} {r : Answer}
    → (r ≡ answer_of (read text (length chart))) × (after ≡ lent_numbers (length chart) (read text (length chart)))
    → Read text chart r after
reads h = record { result = h.0; lent = h.1 }

module _ {v : List ℤ} {out after : List ℕ} where
  pub writes : {r : Written} → (r ≡ written v (length out)) × (after ≡ lent_bytes (length out) (write v (length out)))
      → Wrote v out r after
  writes h = record { result = h.0; lent = h.1 }

  -- the rules refuse: 3 with the rule, and the bytes are 0
  pub write_3 : {c : Answer} {k : ℕ} → Checked v c → (c.number ≡ 0 → ⊥) → k ≡ length out → after ≡ replicate k 0
      → Wrote v out (record { answer = c; length = 0 }) after
  write_3 {c} {k} h z e l = writes (wrote_refused v c h.result (length out) k after z e l)
