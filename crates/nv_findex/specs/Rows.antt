-- Lists that lie in rows.
use Rattle.std.specs.Prelude.{ℕ, ◌+◌, ◌-◌, ◌*◌, ◌/◌, ◌%◌, ◌<◌, ◌≤◌, nat_lt, if◌then◌else◌, List, [], ◌∷◌, ◌++◌, length, take, drop, slice_index_or}
use Rattle.nv_findex.specs.declared.run_rows.TheConstants.{ROW}
use Rattle.nv_findex.specs.declared.page_run.PageRun.{PageRun}

-- what contracts see of runs in rows
pub record RunList : Type 0 where
  -- the runs in their order
  pub items : List PageRun
  -- for how many runs there is room in all
  pub capacity : ℕ

-- a ring from its place s on
abbrev pub turned : {A : Type 0} → ℕ → List A → List A
turned s xs = drop s xs ++ take s xs

-- the list after an item was put at place i, those from there on and before place j moved by one, and the last of them taken out
abbrev pub pushed : {A : Type 0} → ℕ → ℕ → A → List A → List A
pushed i j x xs = take i xs ++ (x ∷ take (j - 1 - i) (drop i xs) ++ drop j xs)

-- the list that lies in full rows, each a ring from a start of its own, and in what is behind them
unfoldable pub in_rows : {A : Type 0} → List ℕ → List A → List A
in_rows [] xs = xs
in_rows (s ∷ ss) xs = turned s (take ROW xs) ++ in_rows ss (drop ROW xs)

-- the starts of the full rows of so many items, each within its row
unfoldable pub AreStarts : List ℕ → ℕ → Type 0
AreStarts [] len = len < ROW
AreStarts (s ∷ ss) len = (s < ROW) × (ROW ≤ len) × AreStarts ss (len - ROW)

-- where the item at a place lies
abbrev pub slot : List ℕ → ℕ → ℕ
slot starts place =
    if nat_lt (place / ROW) (length starts) then place / ROW * ROW + (slice_index_or starts (place / ROW) 0 + place % ROW) % ROW else place
