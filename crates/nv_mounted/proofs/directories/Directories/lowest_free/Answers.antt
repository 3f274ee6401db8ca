use Rattle.std.proofs.Common.{◌≡◌, ◌∙◌, ◌<◌, ap, arith, get_or, length, sym, true}
use Rattle.std.proofs.lemmas.List.Sums.{position_or_len_is}
use Rattle.nv_mounted.specs.Listings.{is_closed, lowest_free}
use Rattle.nv_mounted.specs.declared.directories.Open.TheVariants.{Closed}
use Rattle.nv_mounted.proofs.directories.Directories.lowest_free.Goals as goal

pub returns-in-Closed : goal.returns-in-Closed
returns-in-Closed c =
    let rows = c.self.inside.rows.items in
    let there = c.index.result.now in
    let here : is_closed (get_or rows c.loop-at.at there) ≡ true = ap is_closed (sym c.index.ensures ∙ c.in-Closed.is) in
    let within : c.loop-at.at < length rows =
    omega (arith, c.loop-at-test.true, c.len-at-end.ensures, c.self.inside.rows.ok.0) in
    let first : lowest_free rows ≡ c.loop-at.at =
    position_or_len_is is_closed rows c.loop-at.at there (omega arith)
    (λ k below. c.loop-at.invariant k there below) (λ below. here) in
    sym first ∙ ap lowest_free c.self.view_is

pub returns : goal.returns
returns c =
    let rows = c.self.inside.rows.items in
    let count : c.len.result ≡ length rows = omega (arith, c.len.ensures, c.self.inside.rows.ok.0) in
    let first : lowest_free rows ≡ length rows =
    position_or_len_is is_closed rows (length rows) Closed (omega arith)
    (λ k below. c.loop-at.invariant k Closed
    (omega (arith, below, c.loop-at-test.false, c.len-at-end.ensures, c.self.inside.rows.ok.0)))
    (λ below. absurd (omega (arith, below))) in
    count ∙ sym first ∙ ap lowest_free c.self.view_is
