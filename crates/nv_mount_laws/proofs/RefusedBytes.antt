-- Requests for the bytes of files: reads change nothing, and a refused write or fallocate has
-- changed nothing.
use Rattle.std.proofs.Common.{◌≡◌, ◌^◌, ◌<◌, ◌==◌, ℕ, Bool, true, false, if◌then◌else◌, List, Option, Ok, arith, length, refl, subst, sym}
use Rattle.std.specs.Prelude.{min, nat_le, nat_lt}
use Rattle.std.proofs.lemmas.Bool.{ltb-true}
use Rattle.nv_base.specs.declared.numbers.Handle.{Handle}
use Rattle.nv_calls.specs.declared.answer.Answer.{Answer}
use Rattle.nv_calls.specs.declared.answer.Answer.TheVariants as answers
use Rattle.nv_calls.specs.declared.call.Call.TheVariants as calls
use Rattle.nv_fuse.specs.declared.errno.Errno.TheVariants as errno
use Rattle.nv_mount_answers.specs.declared.kept.Time.{Time}
use Rattle.nv_mount_beside.specs.Names.{node_named, or_refused}
use Rattle.nv_mount_beside.specs.declared.outcome.Outcome.{Outcome}
use Rattle.nv_mount_beside.specs.declared.outcome.Outcome.TheVariants as outcomes
use Rattle.nv_mounted.specs.Side.{touched}
use Rattle.nv_mounted.specs.Asks.{ask, ask_done, ask_shape, other_kind}
use Rattle.nv_mounted.specs.Contents.{bytes_told, count_told, fallocate, read_bytes, write_bytes}
use Rattle.nv_mounted.specs.Dialogues.{Dialogue, Ends, Grows, ◌>>=◌}
use Rattle.nv_mounted.specs.declared.side.Side.{Side}
use Rattle.nv_mount_laws.specs.Refused.{ChangesNothing, RefusedChangesNothing}
use Rattle.nv_mount_laws.proofs.ReadingOnly.{ChangesLast, OnlyReads, Succeeds, both_read, ends_well, reads_first, reads_same}
use Rattle.nv_mount_laws.proofs.Refused.{chosen, done_last, refused_by}

-- ---- reads

pub read_reads : (number offset size : ℕ) → OnlyReads (read_bytes number offset size)
read_reads number offset size =
    both_read (Ends (node_named number)) _ tt (λ file.
    both_read (ask (calls.Read file offset (min size 16777216)) (bytes_told (min size 16777216))) _
    (refl, λ answer. tt) (λ bytes. tt))

pub bytes_same : (number offset size : ℕ) → ChangesNothing (read_bytes number offset size)
bytes_same number offset size = reads_same (read_bytes number offset size)
    (read_reads number offset size)

-- ---- writes

-- a count that fits is told
count_well : (count : ℕ) → count < 2 ^ 32 → Succeeds (Ends (count_told (Ok (answers.Count count))))
count_well count small = go (nat_lt 4294967295 count) refl where
  go : (b : Bool) → nat_lt 4294967295 count ≡ b
      → Succeeds (Ends (if b then other_kind else Ok count))
  go true is = absurd (let large = ltb-true 4294967295 count is in omega (arith, large, small))
  go false is = tt

write_last : (file : Handle) (offset : ℕ) (bytes : List ℕ) → length bytes < 2 ^ 32
    → ChangesLast (Grows (ask (calls.Write file offset bytes) count_told))
write_last file offset bytes small = (
  λ why. tt,
  λ a suits reads. tt,
  λ a suits changes. subst (λ (answer : Answer). Succeeds (Ends (count_told (Ok answer))))
      (sym suits) (count_well (length bytes) small),
)

pub write_refused : (side : Side) (now : Time) (number offset : ℕ) (bytes : List ℕ)
    → length bytes < 2 ^ 32
    → RefusedChangesNothing (write_bytes side now number offset bytes) side
write_refused side now number offset bytes small =
    refused_by (write_bytes side now number offset bytes) side
    (reads_first (Ends (node_named number)) _ tt (λ file.
    ends_well (Grows (ask (calls.Write file offset bytes) count_told)) _
    (write_last file offset bytes small) (λ count. tt) (λ count. tt)))

-- ---- fallocate

abbrev pub grows : Side → Time → Handle → ℕ → Dialogue (Outcome × Side)
grows side now file size = ask_done (calls.Size file size) >>=
    λ done. Ends (Ok (outcomes.Done, touched now file side))

grows_last : (side : Side) (now : Time) (file : Handle) (size : ℕ)
    → ChangesLast (grows side now file size)
grows_last side now file size =
    ends_well (ask_done (calls.Size file size)) _ (done_last (calls.Size file size)) (λ done. tt)
    (λ done. tt)

pub fallocate_refused : (side : Side) (now : Time) (number : ℕ) (end : Option ℕ) (mode : ℕ)
    → RefusedChangesNothing (fallocate side now number end mode) side
fallocate_refused side now number end mode =
    refused_by (fallocate side now number end mode) side
    (reads_first (Ends (node_named number)) _ tt (λ file.
    chosen (λ d. ChangesLast d) (nat_lt 1 mode) _ _ tt
    (reads_first (Ends (or_refused errno.FileTooBig end)) _ tt (λ size.
    chosen (λ d. ChangesLast d) (mode == 1) _ _ tt
    (reads_first (ask_shape file) _ (refl, λ answer. tt) (λ shape.
    chosen (λ d. ChangesLast d) (nat_le size shape.size) (Ends (Ok (outcomes.Done, side)))
    (grows side now file size) tt
    (grows_last side now file size)))))))
