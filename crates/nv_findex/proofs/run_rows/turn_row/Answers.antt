use Rattle.std.proofs.Common.{◌≡◌, ◌∙◌, ◌+◌, ◌-◌, ◌*◌, ℕ, List, ◌++◌, take, drop, ap, arith}
use Rattle.std.proofs.lemmas.List.{drop-drop}
use Rattle.nv_findex.specs.declared.page_run.PageRun.{PageRun}
use Rattle.nv_findex.specs.Rows.{turned}
use Rattle.nv_findex.proofs.run_rows.turn_row.Goals as goal

pub returns : goal.returns
returns c =
    let a = c.args.row * 128 in
    let xs = c.args.runs.now in
    let s = c.args.start in
    let all : a + 128 - a ≡ 128 = omega arith in
    ap (λ (n : ℕ). take a xs ++ (c.rotate_left.new.self ++ drop n (drop a xs))) all
    ∙ ap (λ (l : List PageRun). take a xs ++ (l ++ drop 128 (drop a xs))) (c.rotate_left.ensures.after ∙ ap (λ (n : ℕ). turned s (take n (drop a xs))) all)
    ∙ ap (λ (l : List PageRun). take a xs ++ (turned s (take 128 (drop a xs)) ++ l)) (drop-drop 128 a xs)
