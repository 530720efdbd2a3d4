-- Lists of words: a part, and a list with a part replaced. Lent slices are lists, so contracts cite these.
use Rattle.std.specs.Prelude.{ℕ, zero, suc, ◌+◌, Bool, true, false, ◌&&◌, ◌||◌, List, [], ◌∷◌, ◌++◌, take, drop, replicate}

-- the n words from at
unfoldable pub part : ℕ → ℕ → List ℕ → List ℕ
part at n l = take n (drop at l)

-- l with vs in the place of its words from at; what would pass the end is left out
abbrev pub splice : List ℕ → ℕ → List ℕ → List ℕ
splice [] at vs = []
splice (x ∷ l) zero [] = x ∷ l
splice (x ∷ l) zero (v ∷ vs) = v ∷ splice l zero vs
splice (x ∷ l) (suc at) vs = x ∷ splice l at vs

-- sums word by word, as many as the shorter list has
abbrev pub sums : List ℕ → List ℕ → List ℕ
sums [] ys = []
sums (x ∷ xs) [] = []
sums (x ∷ xs) (y ∷ ys) = (x + y) ∷ sums xs ys

abbrev pub zeros : ℕ → List ℕ
zeros n = replicate n 0

-- lists one behind the other
abbrev pub joined : {A : Type 0} → List (List A) → List A
joined [] = []
joined (l ∷ ls) = l ++ joined ls

-- a sum over a list
abbrev pub over_all : {A : Type 0} → (A → ℕ) → List A → ℕ
over_all f [] = 0
over_all f (x ∷ xs) = f x + over_all f xs

-- the numbers k, k + 1, .., so many
abbrev pub numbers_from : (k many : ℕ) → List ℕ
numbers_from k zero = []
numbers_from k (suc many) = k ∷ numbers_from (suc k) many

-- every test of a list holds
abbrev pub all : List Bool → Bool
all [] = true
all (b ∷ bs) = b && all bs

-- a test holds of every element
abbrev pub every : {A : Type 0} → (A → Bool) → List A → Bool
every f [] = true
every f (x ∷ xs) = f x && every f xs

-- a test holds of some element
abbrev pub some : {A : Type 0} → (A → Bool) → List A → Bool
some f [] = false
some f (x ∷ xs) = f x || some f xs
