-- What it means that so many different signers say the same.
use Rattle.std.specs.Prelude.{◌≡◌, ℕ, suc, ◌<◌, ◌≤◌, Bool, true, false, cond, ◌⊎◌, List, [], ◌∷◌, Some, None, Option, ◌==◌}

-- is a number in a list?
abbrev pub has : ℕ → List ℕ → Bool
has s [] = false
has s (x ∷ xs) = cond (x == s) true (has s xs)

-- how many different numbers a list has: each counts where it stands last
abbrev pub different : List ℕ → ℕ
different [] = 0
different (x ∷ xs) = cond (has x xs) (different xs) (suc (different xs))

-- what holds of some word, and of each word, of a list
abbrev pub Among : {W : Type 0} → (W → Type 0) → List W → Type 0
Among P [] = ⊥
Among P (x ∷ xs) = P x ⊎ Among P xs

abbrev pub Each : {W : Type 0} → (W → Type 0) → List W → Type 0
Each P [] = Unit {0}
Each P (x ∷ xs) = P x × Each P xs

module _ {W : Type 0} (signer : W → ℕ) (same : W → W → Bool) where
  -- who signed the words that are the same as w
  abbrev pub sharers : W → List W → List ℕ
  sharers w [] = []
  sharers w (x ∷ xs) = cond (same x w) (signer x ∷ sharers w xs) (sharers w xs)

  -- how many different signers share w
  abbrev pub shared : List W → W → ℕ
  shared words w = different (sharers w words)

  -- s signed w, and at least m different signers share it
  abbrev pub Carried : List W → ℕ → ℕ → W → Type 0
  Carried words m s w = (signer w ≡ s) × (m ≤ shared words w)

  -- fewer than m different signers share w
  abbrev pub Short : List W → ℕ → W → Type 0
  Short words m w = shared words w < m

  -- the answer to whether m different signers say the same: one of them, or none where no word has m; none for m = 0
  abbrev pub Tallied : List W → ℕ → Option ℕ → Type 0
  Tallied words m (Some s) = (1 ≤ m) × Among (Carried words m s) words
  Tallied words m None = 1 ≤ m → Each (Short words m) words
