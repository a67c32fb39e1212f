-- Laws of one field: its bytes. Assumes nothing.
use mathlib.Core.Path.{◌≡◌, refl, ap, ◌∙◌}
use mathlib.Core.Bool.{true, false}
use mathlib.Core.List.{List, ◌∷◌}
use Prim.Native.Nat.{ℕ, ◌+◌, ◌<◌}
use lib.IntN.{ℤ}
use Rattle.numbers.specs.Reference.{ref}
use Rattle.sizes.specs.Sizes.{EVENTS}
use Rattle.meaning.specs.Grammar.{turn, number, count, letter, dash, target_state, target_history, target_none}
use Rattle.meaning.specs.Value.{num, one_of_letters}
use Rattle.meaning.specs.Number.{digits, numeral}
use Rattle.meaning.specs.Split.{TAB}
use Rattle.meaning.specs.Line.{write_field}
use Rattle.forms.specs.declared.Letters.{Letters}
use Rattle.forms.specs.declared.Field.{Field as Cell}
use Rattle.forms.specs.declared.Field.TheVariants.{Turn, Number, EventCount, Dash, Letter, TargetState, TargetHistory, InPlace}
use Rattle.forms.specs.Table.{letters_of, field_of}
use Rattle.forms.proofs.TableLaws.{letter_byte}
use Rattle.round_trip.specs.Rows.{tells}
use Rattle.round_trip.proofs.Fields.{letter_is}
use Rattle.pen.specs.Pen.{Pen, put_byte, put_all}

-- a field of another kind tells nothing
pub tells_none : (f : Cell) (z : ℤ) → (f ≡ Dash → ⊥) → ((l : Letters) → f ≡ Letter l → ⊥) → (f ≡ TargetHistory → ⊥) → (f ≡ InPlace → ⊥)
    → false ≡ tells (field_of f) z
unfolding tells
tells_none Turn z d l h p = refl
tells_none Number z d l h p = refl
tells_none EventCount z d l h p = refl
tells_none Dash z d l h p = absurd (d refl)
tells_none (Letter ls) z d l h p = absurd (l ls refl)
tells_none TargetState z d l h p = refl
tells_none TargetHistory z d l h p = absurd (h refl)
tells_none InPlace z d l h p = absurd (p refl)

-- a letter is a byte
pub letter_small : (l : Letters) (at : ℕ) (v : List ℤ) → one_of_letters (letters_of l) (num v at) ≡ true → ref (num v at) < 256
letter_small l at v e = letter_byte l (ref (num v at)) (letter_is (letters_of l) (num v at) e).in_list

-- ---- what a field says

module _ (n at : ℕ) (v : List ℤ) (p r : Pen) where
  pub said_turn : r ≡ put_all (digits n) p → r ≡ put_all (write_field turn n at v) p
  unfolding write_field numeral
  said_turn f = f

  module _ (z : ℤ) (f : r ≡ put_all (numeral z) p) where
    pub said_number : z ≡ num v at → r ≡ put_all (write_field number n at v) p
    unfolding write_field
    said_number g = rw (← g) f

    pub said_count : z ≡ num v at → r ≡ put_all (write_field (count 0 EVENTS) n at v) p
    unfolding write_field
    said_count g = rw (← g) f

    pub said_state : z ≡ num v (at + 1) → r ≡ put_all (write_field target_state n at v) p
    unfolding write_field
    said_state g = rw (← g) f

  pub said_history : (q : Pen) (z : ℤ) → z ≡ num v (at + 1) → q ≡ put_byte 104 p → r ≡ put_all (numeral z) q
      → r ≡ put_all (write_field target_history n at v) p
  unfolding write_field put_all
  said_history q z g b f = rw (← g) (f ∙ ap (put_all (numeral z)) b)

  module _ (f : r ≡ put_byte 45 p) where
    pub said_dash : r ≡ put_all (write_field dash n at v) p
    unfolding write_field put_all
    said_dash = f

    pub said_place : r ≡ put_all (write_field target_none n at v) p
    unfolding write_field put_all
    said_place = f

  -- a letter: which, is no matter
  pub said_letter : (ls : List ℕ) (b : ℕ) → b ≡ ref (num v at) → r ≡ put_byte b p → r ≡ put_all (write_field (letter ls) n at v) p
  unfolding write_field put_all
  said_letter ls b g f = rw (← g) f

pub field_put : (x : List ℕ) (p q r : Pen) → q ≡ put_byte TAB p → r ≡ put_all x q → r ≡ put_all (TAB ∷ x) p
unfolding put_all
field_put x p q r e f = f ∙ ap (put_all x) e
