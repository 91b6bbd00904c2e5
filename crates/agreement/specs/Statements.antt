-- What replicas put their seals to. Requests are of any type: nothing here looks inside one.
use Rattle.std.specs.Prelude.{◌≡◌, ℕ, ◌⊎◌, List, [], ◌∷◌, Option}

-- a request at a round of a view
pub record Proposal (Request : Type 0) : Type 0 where
  pub view : ℕ
  pub round : ℕ
  pub request : Request

-- what a view state lists: the last commit, if there is one, and the lines above it, each as its certificate has it
pub record Report (Request : Type 0) : Type 0 where
  pub commit : Option (Proposal Request)
  pub lines : List (Proposal Request)

-- the statements that count for safety
pub data Statement (Request : Type 0) : Type 0 where
  Prepare : (view round : ℕ) → Request → Statement Request
  Inform : (view round : ℕ) → Request → Statement Request
  CheckCommit : (view round : ℕ) → Request → Statement Request
  ViewState : (view : ℕ) → Report Request → Statement Request

-- x stands in the list
abbrev pub Has : {A : Type 0} → A → List A → Type 0
Has x [] = ⊥
Has x (y ∷ ys) = (x ≡ y) ⊎ Has x ys
