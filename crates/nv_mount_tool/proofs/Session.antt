-- What is read and served, read by read.
use Rattle.std.proofs.Common.{◌≡◌, ◌++◌, ℕ, List, [], Option}
use Rattle.std.specs.Io.KnownBytes.{Consumes, Keeps}
use Rattle.nv_mount_answers.specs.declared.kept.Time.{Time}
use Rattle.nv_mount_tool.specs.Answered.{OneMount}
use Rattle.nv_mount_tool.specs.Serve.{IsTimeOf, Serves}
use Rattle.nv_mount_tool.specs.Stream.{Brings}
use Rattle.nv_mount_tool.specs.declared.serve.Serving.{Serving}
use Rattle.nv_mount_tool.specs.declared.stream.Brought.{Brought}
use Rattle.nv_mount_tool.specs.declared.stream.Brought.TheVariants.{Bytes, Nothing, End, Unmounted}
use Rattle.nv_mount_tool.proofs.Serving.{Came, came_served, consumes_then, keeps_consumes, nil_came, served_more, served_now, served_then, served_to}

-- bytes are taken from the reader, and served; this mount is left
abbrev pub Session : (Time → Type 0) → Option (List ℕ) → Option (List ℕ) → Serving → Serving → OneMount → Option (List ℕ) → Option (List ℕ) → Type 0
Session P reader rest old new last before after = (came : List ℕ) × Consumes reader rest came × Serves P came old new last before after

-- and then requests are answered at a time
pub session_answers : (fixed : Option ℕ) (now : Time) (reader rest : Option (List ℕ)) (old mid new : Serving) (last : OneMount) (before between after : Option (List ℕ))
    → Session (IsTimeOf fixed) reader rest old mid mid.mount before between → IsTimeOf fixed now
    → Serves (λ (time : Time). time ≡ now) [] mid new last between after → Session (IsTimeOf fixed) reader rest old new last before after
session_answers fixed now reader rest old mid new last before between after s is q =
    (s.0, s.1, served_more (IsTimeOf fixed) s.0 old mid new last before between after s.2 (served_now fixed now mid new last between after is q))

-- and the mount of the last one is left
pub session_answered : (fixed : Option ℕ) (now : Time) (reader rest : Option (List ℕ)) (old mid new : Serving) (before between after : Option (List ℕ))
    → Session (IsTimeOf fixed) reader rest old mid mid.mount before between → IsTimeOf fixed now
    → (last : OneMount) × (new.mount ≡ last) × Serves (λ (time : Time). time ≡ now) [] mid new last between after
    → Session (IsTimeOf fixed) reader rest old new new.mount before after
session_answered fixed now reader rest old mid new before between after s is q =
    session_answers fixed now reader rest old mid new new.mount before between after s is
    (served_to (λ (time : Time). time ≡ now) [] mid new q.0 new.mount between after q.1 q.2)

-- and then bytes come
session_comes : (P : Time → Type 0) (bytes : List ℕ) (reader rest left : Option (List ℕ)) (old mid new : Serving) (before after : Option (List ℕ))
    → Session P reader rest old mid mid.mount before after → Consumes rest left bytes → Came bytes mid new
    → Session P reader left old new new.mount before after
session_comes P bytes reader rest left old mid new before after s c came = (
  s.0 ++ bytes,
  consumes_then reader rest left s.0 bytes s.1 c,
  served_then P s.0 bytes old mid new new.mount before after after s.2 (came_served P bytes mid new after came),
)

-- and then nothing comes
pub session_keeps : (P : Time → Type 0) (reader rest left : Option (List ℕ)) (old mid new : Serving) (before after : Option (List ℕ))
    → Session P reader rest old mid mid.mount before after → Keeps rest left
    → new.mount ≡ mid.mount → new.stream ≡ mid.stream → new.answered ≡ mid.answered → new.dropped ≡ mid.dropped
    → Session P reader left old new new.mount before after
session_keeps P reader rest left old mid new before after s k mount stream answered dropped =
    session_comes P [] reader rest left old mid new before after s (keeps_consumes rest left k) (nil_came mid new mount stream answered dropped)

-- and then a read brings what it brings
pub session_brings : (P : Time → Type 0) (brought : Brought) (reader rest left : Option (List ℕ)) (old mid new : Serving) (before after : Option (List ℕ))
    → Session P reader rest old mid mid.mount before after → Brings brought rest left mid.stream new.stream
    → new.mount ≡ mid.mount → new.answered ≡ mid.answered → new.dropped ≡ mid.dropped
    → Session P reader left old new new.mount before after
session_brings P Bytes reader rest left old mid new before after s b mount answered dropped =
    session_comes P b.0 reader rest left old mid new before after s b.2 (record { mount = mount; stream = b.3; answered = answered; dropped = dropped })
session_brings P Nothing reader rest left old mid new before after s b mount answered dropped =
    session_keeps P reader rest left old mid new before after s b.0 mount b.1 answered dropped
session_brings P Unmounted reader rest left old mid new before after s b mount answered dropped =
    session_keeps P reader rest left old mid new before after s b.0 mount b.1 answered dropped
session_brings P End reader rest left old mid new before after s b mount answered dropped =
    session_comes P [] reader rest left old mid new before after s b.0 (nil_came mid new mount b.2 answered dropped)
