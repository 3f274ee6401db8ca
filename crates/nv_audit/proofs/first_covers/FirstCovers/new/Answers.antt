use Rattle.std.proofs.Common.{ℕ, List, Bor, None, ap, refl, ◌∙◌}
use Rattle.std.specs.Prelude.{option_and_then}
use Rattle.std.specs.Option.{option_or}
use Rattle.nv_entry.specs.Keys.{KindKey, ModeKey, NameKey, PageKey, SizeKey}
use Rattle.nv_findex.specs.Pages.{PageMap}
use Rattle.nv_audit.specs.Deaths.{epoch_of, page_cover}
use Rattle.nv_audit.specs.Names.{name_in}
use Rattle.nv_audit.proofs.Covers.{no_page}
use Rattle.nv_audit.proofs.first_covers.FirstCovers.new.Goals as goal

pub returns : goal.returns
returns c log KindKey = refl
returns c log ModeKey = refl
returns c log SizeKey = refl
returns c log (NameKey name) = ap (λ (es : List (Bor (List ℕ) × ℕ)). option_or (name_in es name) None) c.new.ensures.empty
returns c log (PageKey page) =
    ap (λ (index : PageMap). option_and_then (epoch_of log) (page_cover index page)) c.new-2.ensures ∙ no_page log page
