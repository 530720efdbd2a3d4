-- Values laid out in words at fixed widths.
use Rattle.std.specs.Prelude.{ℕ, zero, suc, ◌+◌, ◌*◌, List, [], ◌∷◌, ◌++◌, get_or, take, drop}

-- how many words a value takes, its words, and the value of words
pub record Layout (A : Type 0) : Type 0 where
  pub width : ℕ
  pub put : A → List ℕ
  pub get : List ℕ → A

-- one word
unfoldable pub word : Layout ℕ
word = record { width = 1; put = λ x. x ∷ []; get = λ l. get_or l 0 0 }

-- n words
unfoldable pub block : ℕ → Layout (List ℕ)
block n = record { width = n; put = λ l. l; get = λ l. take n l }

-- one value behind the other
unfoldable pub pair : {A B : Type 0} → Layout A → Layout B → Layout (A × B)
pair a b =
    record {
      width = a.width + b.width;
      put = λ x. a.put x.0 ++ b.put x.1;
      get = λ l. (a.get l, b.get (drop a.width l));
    }

abbrev pub put_all : {A : Type 0} → Layout A → List A → List ℕ
put_all a [] = []
put_all a (x ∷ xs) = a.put x ++ put_all a xs

abbrev pub get_all : {A : Type 0} → Layout A → ℕ → List ℕ → List A
get_all a zero l = []
get_all a (suc n) l = a.get l ∷ get_all a n (drop a.width l)

-- n values of one layout
unfoldable pub many : {A : Type 0} → ℕ → Layout A → Layout (List A)
many n a = record { width = n * a.width; put = put_all a; get = get_all a n }

-- a record, laid out as the pairs of its fields
unfoldable pub fields : {A B : Type 0} → (B → A) → (A → B) → Layout A → Layout B
fields f g a = record { width = a.width; put = λ x. a.put (f x); get = λ l. g (a.get l) }
