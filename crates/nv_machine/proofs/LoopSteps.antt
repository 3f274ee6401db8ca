-- What comes behind a step in the loops of a call on files and directories.
use Rattle.std.proofs.Common.{Bool, List, false, if◌then◌else◌, length, nat_lt, refl, true, ℕ, ◌+◌, ◌≡◌}
use Rattle.std.proofs.lemmas.Bool.{false≢true}
use Rattle.nv_machine.specs.Reads.{written_slots}
use Rattle.nv_machine.specs.Sequence.{appending, closing, directories, locking, looking, opening, publishing, retiring, sequel}
use Rattle.nv_machine.specs.World.{Append, ReturnNumber, Check, Close, Enter, Give, Leave, Lock, Look, Next, Number, Open, Publish, Ready, Retire, Running, SnapshotOrCleaner, TakeBlocks, TakeLogPages, Unlock, Visit}

-- what holds of each step of a commit
pub record Commits (P : Next → Type 0) : Type 0 where
  pub append : (place : ℕ) → P (Append place)
  pub opens : P Open
  pub publish : (place : ℕ) → P (Publish place)
  pub close : P Close
  pub retire : (place : ℕ) → P (Retire place)
  pub leave : P Leave

module _ (P : Next → Type 0) where
  pub either : (b : Bool) (x y : Next) → P x → P y → P (if b then x else y)
  either true x y p q = p
  either false x y p q = q

  -- with what the test says
  pub by_test : (b : Bool) (x y : Next) → (b ≡ true → P x) → (b ≡ false → P y) → P (if b then x else y)
  by_test true x y p q = p refl
  by_test false x y p q = q refl

  pub locking_any : ((place : ℕ) → P (Lock place)) → P Check → (place : ℕ) (slots : List ℕ) → P (locking place slots)
  locking_any lock check place slots = either (nat_lt place (length slots)) (Lock place) Check (lock place) check

  pub looking_any : ((place : ℕ) → P (Look place)) → ((place : ℕ) → P (Lock place)) → P Check → (place : ℕ) (q : Running)
      → P (looking place q)
  looking_any look lock check place q =
      either (nat_lt place (length (directories q.call))) (Look place) (locking 0 q.slots) (look place) (locking_any lock check 0 q.slots)

module _ (P : Next → Type 0) (all : Commits P) where
  pub retiring_any : (place : ℕ) (written : List ℕ) → P (retiring place written)
  retiring_any place written = either P (nat_lt place (length written)) (Retire place) Leave (all.retire place) all.leave

  closing_any : (written : List ℕ) → P (closing written)
  closing_any written = either P (nat_lt 1 (length written)) Close (retiring 0 written) all.close (retiring_any 0 written)

  pub publishing_any : (place : ℕ) (written : List ℕ) → P (publishing place written)
  publishing_any place written =
      either P (nat_lt place (length written)) (Publish place) (closing written) (all.publish place) (closing_any written)

  opening_any : (written : List ℕ) → P (opening written)
  opening_any written = either P (nat_lt 1 (length written)) Open (publishing 0 written) all.opens (publishing_any 0 written)

  pub appending_any : (place : ℕ) (written : List ℕ) → P (appending place written)
  appending_any place written =
      either P (nat_lt place (length written)) (Append place) (opening written) (all.append place) (opening_any written)

-- ---- what comes next

-- it goes on in the sequence
abbrev pub goes_on : Next → Bool
goes_on Check = false
goes_on (TakeBlocks asked) = false
goes_on (TakeLogPages asked) = false
goes_on Visit = false
goes_on (SnapshotOrCleaner step) = false
goes_on Leave = false
goes_on (Unlock place) = false
goes_on (Give cpu) = false
goes_on ReturnNumber = false
goes_on other = true

-- what holds of each step that may come next
pub record Sequel (P : Next → Type 0) : Type 0 where
  pub look : (place : ℕ) → P (Look place)
  pub lock : (place : ℕ) → P (Lock place)
  pub check : P Check
  pub enter : P Enter
  pub commits : Commits P

pub sequel_any : (P : Next → Type 0) → Sequel P → (k : Next) (q : Running) → goes_on k ≡ true → P (sequel q k)
sequel_any P all Number q on = locking_any P all.lock all.check 0 q.slots
sequel_any P all (Look place) q on = looking_any P all.look all.lock all.check (place + 1) q
sequel_any P all (Lock place) q on = locking_any P all.lock all.check (place + 1) q.slots
sequel_any P all Ready q on = all.enter
sequel_any P all Enter q on = appending_any P all.commits 0 (written_slots q)
sequel_any P all (Append place) q on = appending_any P all.commits (place + 1) (written_slots q)
sequel_any P all Open q on = publishing_any P all.commits 0 (written_slots q)
sequel_any P all (Publish place) q on = publishing_any P all.commits (place + 1) (written_slots q)
sequel_any P all Close q on = retiring_any P all.commits 0 (written_slots q)
sequel_any P all (Retire place) q on = retiring_any P all.commits (place + 1) (written_slots q)
sequel_any P all other q on = absurd (false≢true on)

-- ---- none is a step of a call on snapshots

abbrev pub is_on_files : Next → Bool
is_on_files (SnapshotOrCleaner step) = false
is_on_files other = true

abbrev IsOnFiles : Next → Type 0
IsOnFiles k = is_on_files k ≡ true

commits_on : Commits IsOnFiles
commits_on = record {
  append = λ place. refl;
  opens = refl;
  publish = λ place. refl;
  close = refl;
  retire = λ place. refl;
  leave = refl;
}

pub sequel_on : (k : Next) (q : Running) → goes_on k ≡ true → is_on_files (sequel q k) ≡ true
sequel_on = sequel_any IsOnFiles
    (record { look = λ place. refl; lock = λ place. refl; check = refl; enter = refl; commits = commits_on })

pub locking_on : (place : ℕ) (slots : List ℕ) → is_on_files (locking place slots) ≡ true
locking_on = locking_any IsOnFiles (λ place. refl) refl

pub retiring_on : (place : ℕ) (written : List ℕ) → is_on_files (retiring place written) ≡ true
retiring_on = retiring_any IsOnFiles commits_on

pub publishing_on : (place : ℕ) (written : List ℕ) → is_on_files (publishing place written) ≡ true
publishing_on = publishing_any IsOnFiles commits_on

pub appending_on : (place : ℕ) (written : List ℕ) → is_on_files (appending place written) ≡ true
appending_on = appending_any IsOnFiles commits_on
