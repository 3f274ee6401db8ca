-- The call of a request that looks names up.
use Rattle.std.proofs.Common.{◌≡◌, ℕ, ◌+◌, ◌<◌, ◌∙◌, if◌then◌else◌, Bool, false, List, [], ◌∷◌, Option, Some, None, ap, refl, subst}
use Rattle.std.specs.Prelude.{is_some}
use Rattle.nv_calls.proofs.RefusedLooks.{HasPlace}
use Rattle.nv_calls.specs.Updates.{call_of}
use Rattle.nv_calls.specs.declared.call.Call.{Call}
use Rattle.nv_calls.specs.declared.update.Update.{Update}
use Rattle.nv_core.specs.GhostCalls.{IsChangeBy, IsRequestOf, IsLookAt}
use Rattle.nv_core.specs.declared.request.Request.{Request}
use Rattle.nv_core.specs.declared.request.Request.TheVariants as request
use Rattle.nv_core.specs.declared.request.PendingAnswer.{PendingAnswer}

pub place_of : (j : Request) (plan : Update) (place : ℕ) → IsChangeBy j plan → IsLookAt place j → HasPlace place plan
place_of (request.Change p text) plan place by at = subst (λ (x : Update). HasPlace place x) by at
place_of (request.Visit visit) plan place by at = elim by [ ]
place_of (request.SnapshotOrCleaner on) plan place by at = elim by [ ]
place_of request.Taken plan place by at = elim by [ ]

-- ---- the machine's turn of a look

-- the call of a request that changes nodes is that of its update, with some text
pub call_by : (j : Request) (owed : PendingAnswer) (c : Call) (plan : Update) → IsChangeBy j plan → IsRequestOf j owed c
    → (text : List ℕ) × (c ≡ call_of plan text)
call_by (request.Change p text) owed c plan by is = (text, is.0 ∙ ap (λ (x : Update). call_of x text) by)
call_by (request.Visit visit) owed c plan by is = elim by [ ]
call_by (request.SnapshotOrCleaner on) owed c plan by is = elim by [ ]
call_by request.Taken owed c plan by is = elim by [ ]

pub nobody : (owner : Option ℕ) (b : Bool) → b ≡ is_some owner → b ≡ false → owner ≡ None
nobody None b same not = refl
nobody (Some n) b same not = cc
