-- What a request is answered, and the reply that says so.
use Rattle.std.specs.Prelude.{◌≡◌, [], Option, Some, None, IsSomeAnd, Result, Ok, Err}
use Rattle.nv_fuse.specs.Replies.{contents_of, error_of, rows_of}
use Rattle.nv_fuse.specs.declared.reply.Reply.{Reply}
use Rattle.nv_fuse.specs.declared.reply.Reply.TheVariants as replies
use Rattle.nv_mount_beside.specs.Names.{errno_told}
use Rattle.nv_mount_beside.specs.declared.outcome.Outcome.{Outcome}
use Rattle.nv_mount_beside.specs.declared.outcome.Outcome.TheVariants as outcomes
use Rattle.nv_mount_beside.specs.declared.refusal.Refusal.{Refusal}

-- what was done, or the refusal by its error
abbrev pub outcome_of : Result Outcome Refusal → Outcome
outcome_of (Ok outcome) = outcome
outcome_of (Err refusal) = outcomes.Refused (errno_told refusal)

-- the reply says an outcome: there is none to a silent one, attributes hold an hour, and contents stand behind the header alone
abbrev pub IsReplyOf : Outcome → Option Reply → Type 0
IsReplyOf outcomes.Silent reply = reply ≡ None
IsReplyOf (outcomes.Refused error) reply = reply ≡ Some (replies.Refused error)
IsReplyOf outcomes.Done reply = reply ≡ Some replies.Done
IsReplyOf (outcomes.Agreed agreement) reply = reply ≡ Some (replies.Agreed agreement)
IsReplyOf (outcomes.Found entry) reply = reply ≡ Some (replies.Found entry)
IsReplyOf (outcomes.Created entry opened) reply = reply ≡ Some (replies.Created entry opened)
IsReplyOf (outcomes.Node attributes) reply = reply ≡ Some (replies.Node 3600 0 attributes)
IsReplyOf (outcomes.Opened opened) reply = reply ≡ Some (replies.Opened opened)
IsReplyOf (outcomes.Written size) reply = reply ≡ Some (replies.Written size)
IsReplyOf (outcomes.Space space) reply = reply ≡ Some (replies.Space space)
IsReplyOf (outcomes.Contents bytes) reply =
    IsSomeAnd reply (λ told. (contents_of told ≡ bytes) × (rows_of told ≡ []) × (error_of told ≡ 0))
