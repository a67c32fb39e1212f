-- Lists of numbers and rows, as the definitions use them. Assumes nothing.
use Rattle.std.specs.Prelude.{ℕ, zero, suc, ◌-◌, Bool, true, false, cond, ◌&&◌, ◌||◌, List, [], ◌∷◌, ◌++◌, length, replicate, take, drop, eqb}

unfoldable pub has : ℕ → List ℕ → Bool
has n [] = false
has n (x ∷ xs) = eqb n x || has n xs

unfoldable pub keep : {A : Type 0} → (A → Bool) → List A → List A
keep p [] = []
keep p (x ∷ xs) = cond (p x) (x ∷ keep p xs) (keep p xs)

unfoldable pub every : {A : Type 0} → (A → Bool) → List A → Bool
every p [] = true
every p (x ∷ xs) = p x && every p xs

unfoldable pub exists : {A : Type 0} → (A → Bool) → List A → Bool
exists p [] = false
exists p (x ∷ xs) = p x || exists p xs

-- the first that p holds of, 0 where there is none
unfoldable pub first_that : (ℕ → Bool) → List ℕ → ℕ
first_that p [] = 0
first_that p (x ∷ xs) = cond (p x) x (first_that p xs)

unfoldable pub concat_map : {A B : Type 0} → (A → List B) → List A → List B
concat_map f [] = []
concat_map f (x ∷ xs) = f x ++ concat_map f xs

-- n numbers from a, rising
unfoldable pub from : ℕ → ℕ → List ℕ
from a zero = []
from a (suc n) = a ∷ from (suc a) n

-- p of each element and its place, which is counted from n
unfoldable pub every_from : {A : Type 0} → (ℕ → A → Bool) → ℕ → List A → Bool
every_from p n [] = true
every_from p n (x ∷ xs) = p n x && every_from p (suc n) xs

-- the list, and d at each place after it, n places in all
unfoldable pub padded : {A : Type 0} → ℕ → A → List A → List A
padded n d xs = xs ++ replicate (n - length xs) d

-- n rows of k numbers each
unfoldable pub chunks : {A : Type 0} → ℕ → ℕ → List A → List (List A)
chunks zero k l = []
chunks (suc n) k l = take k l ∷ chunks n k (drop k l)

-- f of each element and its place, which is counted from n
unfoldable pub map_from : {A B : Type 0} → (ℕ → A → B) → ℕ → List A → List B
map_from f n [] = []
map_from f n (x ∷ xs) = f n x ∷ map_from f (suc n) xs

-- everything above, opened: for statements that compute
unfoldable pub lists_open : ℕ
unfolding has keep every exists first_that concat_map from every_from padded chunks map_from
lists_open = 0
