-- How requests are served.
use Rattle.std.specs.Prelude.{◌≡◌, ◌==◌, ◌<◌, ◌≤◌, ◌+◌, ◌-◌, ◌^◌, ◌++◌, ◌⊎◌, ℕ, Bool, true, false, List, [], ◌∷◌, Option, Some, None, IfSome, count_by, if◌then◌else◌, length, min, nat_lt, take}
use Rattle.std.specs.List.{AllByRecursion, flat_map}
use Rattle.std.specs.Io.KnownBytes.{Appends, Consumes, IsAtEnd, Keeps}
use Rattle.nv_fuse.specs.Fields.{field}
use Rattle.nv_fuse.specs.Replies.{reply_bytes}
use Rattle.nv_fuse.specs.Stream.{IsFront}
use Rattle.nv_fuse.specs.declared.errno.Errno.TheVariants.{OutOfMemory}
use Rattle.nv_fuse.specs.declared.front.Front.TheVariants.{Broken, Part}
use Rattle.nv_fuse.specs.declared.reply.Reply.{Reply}
use Rattle.nv_fuse.specs.declared.reply.Reply.TheVariants.{Refused}
use Rattle.nv_mount_answers.specs.declared.kept.Time.{Time}
use Rattle.nv_mount_beside.specs.Outcomes.{IsReplyOf}
use Rattle.nv_mount_beside.specs.declared.outcome.Outcome.{Outcome}
use Rattle.nv_mount_tool.specs.Answered.{Answers, Cleans, IsNewMount, OneMount}
use Rattle.nv_mount_tool.specs.CommandLine.{numbers_of}
use Rattle.nv_mount_tool.specs.Stream.{IsRefusal}
use Rattle.nv_mount_tool.specs.declared.command_line.Options.{Options}
use Rattle.nv_mount_tool.specs.declared.serve.ServeError.{ServeError}
use Rattle.nv_mount_tool.specs.declared.serve.ServeError.TheVariants as errors
use Rattle.nv_mount_tool.specs.declared.serve.Serving.{Serving}

-- the bytes of a reply to the request with a number, or of none; where there is no memory for them, of one that tells so
abbrev pub IsToldAs : ℕ → Option Reply → List ℕ → Type 0
IsToldAs unique None bytes = bytes ≡ []
IsToldAs unique (Some reply) bytes =
    (bytes ≡ reply_bytes unique reply) ⊎ (bytes ≡ reply_bytes unique (Refused OutOfMemory))

-- the bytes that reply to the request with a number by an outcome: none where it is silent
abbrev pub Replies : ℕ → Outcome → List ℕ → Type 0
Replies unique outcome bytes = (reply : Option Reply) × IsReplyOf outcome reply × IsToldAs unique reply bytes

-- A request that was served: its bytes, its time, its outcome, its reply, and how many bytes of that were taken.
pub record Served : Type 0 where
  -- its bytes
  pub request : List ℕ
  -- when it is answered
  pub now : Time
  -- what it is answered
  pub outcome : Outcome
  -- the bytes of its reply
  pub reply : List ℕ
  -- how many of these were taken
  pub taken : ℕ

-- A MOUNT SERVES IT, and this mount is left: the old one answers the request, and cleans what is due then. The reply
-- carries the request's number, and tells the outcome of that answer.
pub record IsServed (old : OneMount) (s : Served) (new : OneMount) : Type 0 where
  -- the mount between the answer and the cleaning
  pub between : OneMount
  -- it is answered so
  pub answered : Answers old s.now s.request s.outcome between
  -- then what is due is cleaned
  pub cleaned : Cleans between new
  -- its reply carries its number, and tells the outcome
  pub reply : Replies (field 8 8 s.request) s.outcome s.reply
  -- no more was taken than there is
  pub taken : s.taken ≤ length s.reply

-- requests are served in turn, each by the mount that the one before it left
abbrev pub ServedInTurn : OneMount → List Served → OneMount → Type 0
ServedInTurn old [] new = new ≡ old
ServedInTurn old (s ∷ rest) new = (next : OneMount) × IsServed old s next × ServedInTurn next rest new

-- the time of requests: a fixed one is told in whole seconds
abbrev pub IsTimeOf : Option ℕ → Time → Type 0
IsTimeOf fixed time = IfSome fixed (λ seconds. time ≡ record { seconds = seconds; nanoseconds = 0 })

-- what was written of its reply, at once
abbrev pub written : Served → List ℕ
written s = take s.taken s.reply

-- the reply was not taken whole
abbrev pub is_dropped : Served → Bool
is_dropped s = nat_lt s.taken (length s.reply)

-- a count of eight bytes after so many more; it stays at its greatest number
abbrev pub counted : ℕ → ℕ → ℕ
counted old more = if more == 0 then old else min (old + more) (2 ^ 64 - 1)

-- REQUESTS ARE SERVED: what waited, and the bytes that came behind it, are these requests and what waits now. Each came at
-- such a time, and is answered by the mount that the one before it left; `last` is that of the last one. Their replies are
-- written in their order, and both they and the dropped ones are counted.
pub record Serves (IsTime : Time → Type 0) (came : List ℕ) (old new : Serving) (last : OneMount)
    (before after : Option (List ℕ)) : Type 0 where
  -- the requests
  pub all : List Served
  -- each came at such a time
  pub times : AllByRecursion (λ s. IsTime s.now) all
  -- each is served by the mount that the one before it left
  pub each : ServedInTurn old.mount all last
  -- what came is cut where their lengths tell
  pub cut : old.stream ++ came ≡ flat_map (λ s. s.request) all ++ new.stream
  -- a reply is written for each in turn
  pub replies : Appends before after (flat_map written all)
  -- they are counted
  pub answered : new.answered ≡ counted old.answered (length all)
  -- replies that were not taken whole are counted
  pub dropped : new.dropped ≡ counted old.dropped (count_by is_dropped all)

-- WHAT THE PROGRAM DOES: all that comes of its input is requests. From a new mount on each is served by the mount that the
-- one before it left, at the fixed time where there is one, and their replies are written in their order. Before the end of
-- the input only an unmount ends it.
pub record Attends (options : Options) (unmounted : Bool) (input rest before after : Option (List ℕ)) : Type 0 where
  -- the mount at first
  pub first : OneMount
  -- when it begins
  pub begun : Time
  -- that is the fixed time, where there is one
  pub at : IsTimeOf options.now begun
  -- it is a new one, with the numbers of the options
  pub is_new : IsNewMount (numbers_of options) begun first
  -- the requests
  pub all : List Served
  -- the mount in the end
  pub last : OneMount
  -- each came at the fixed time, where there is one
  pub times : AllByRecursion (λ s. IsTimeOf options.now s.now) all
  -- each is served by the mount that the one before it left
  pub each : ServedInTurn first all last
  -- all that comes is these requests
  pub came : Consumes input rest (flat_map (λ s. s.request) all)
  -- a reply is written for each in turn
  pub replies : Appends before after (flat_map written all)
  -- only an unmount leaves bytes of the input
  pub end : unmounted ≡ false → IsAtEnd rest

-- the same of the next request
pub record ServesOne (now : Time) (old new : Serving) (before after : Option (List ℕ)) : Type 0 where
  -- the request
  pub one : Served
  -- it came at this time
  pub time : one.now ≡ now
  -- it is served by the mount
  pub served : IsServed old.mount one new.mount
  -- it waits no more
  pub cut : old.stream ≡ one.request ++ new.stream
  -- its reply is written
  pub replies : Appends before after (written one)
  -- it is counted
  pub answered : new.answered ≡ counted old.answered 1
  -- and so is its reply, where it was not taken whole
  pub dropped : new.dropped ≡ (if is_dropped one then counted old.dropped 1 else old.dropped)

-- what waits, what is counted and what is written stays
pub record WaitsOn (old new : Serving) (before after : Option (List ℕ)) : Type 0 where
  -- what waited waits
  pub stream : new.stream ≡ old.stream
  -- no request is counted
  pub answered : new.answered ≡ old.answered
  -- and no reply
  pub dropped : new.dropped ≡ old.dropped
  -- nothing is written
  pub replies : Keeps before after

-- the next request is served, or none waits whole and nothing changes
abbrev pub ServesNext : Bool → Time → Serving → Serving → Option (List ℕ) → Option (List ℕ) → Type 0
ServesNext true now old new before after = ServesOne now old new before after
ServesNext false now old new before after =
    WaitsOn old new before after × (new.mount ≡ old.mount) × IsFront old.stream Part

-- why no more requests are served, and what waits then
abbrev pub StopsAt : ServeError → List ℕ → Type 0
StopsAt (errors.Stream error) waiting = IsRefusal error waiting
StopsAt errors.TooShort waiting = IsFront waiting Broken
StopsAt errors.Cut waiting = IsFront waiting Part × (0 < length waiting)
StopsAt other waiting = Unit {0}
