-- Document 02, E2: what survival means of a record's place among n records.
use Rattle.std.specs.Prelude.{ℕ, suc, ◌≤◌, ◌<◌, ◌≡◌, Bool, true, false}
use Rattle.slot.specs.declared.Seen.{Seen}

-- an LN of any pages, or a CL
abbrev pub breaks : Seen → Bool
breaks Seen.Letter = false
breaks Seen.Line = true
breaks Seen.Page = true
breaks Seen.Clear = true
breaks Seen.Other = false

-- no LN and no CL between the places i and n
abbrev pub Unbroken : (ℕ → Seen) → (i n : ℕ) → Type 0
Unbroken f i n = (m : ℕ) → i < m → m < n → breaks (f m) ≡ false

-- the record at i is a letter asked for; no LN after it turns a page; no CL voids it
pub record Survives (f : ℕ → Seen) (n i : ℕ) : Type 0 where
  pub within : i < n
  pub letter : f i ≡ Seen.Letter
  pub page : (m : ℕ) → i < m → m < n → f m ≡ Seen.Page → ⊥
  pub clear : (m : ℕ) → i < m → m < n → f m ≡ Seen.Clear → Unbroken f i m → ⊥

-- k is one more than the last place that P holds of, or 0 if it holds of none
pub record Last (P : ℕ → Type 0) (k : ℕ) : Type 0 where
  pub holds : (i : ℕ) → k ≡ suc i → P i
  pub newest : (i : ℕ) → k ≤ i → P i → ⊥
