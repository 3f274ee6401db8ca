use Rattle.std.proofs.Common.{◌≡◌, ◌++◌, subst, sym}
use Rattle.std.specs.Prelude.{OnOk}
use Rattle.nv_entry.specs.declared.item.Item.{Item}
use Rattle.nv_script.specs.Json.{item_members}
use Rattle.nv_trace.proofs.json_log.push_item.Goals as goal

pub returns-in-Init : goal.returns-in-Init
returns-in-Init c =
    subst (λ (i : Item). OnOk c.push_init.result (c.push_init.new.out.items ≡ c.args.out.now.items ++ item_members i)) (sym c.in-Init.is)
    c.push_init.ensures

pub returns-in-Write : goal.returns-in-Write
returns-in-Write c =
    subst (λ (i : Item). OnOk c.push_write.result (c.push_write.new.out.items ≡ c.args.out.now.items ++ item_members i)) (sym c.in-Write.is)
    c.push_write.ensures

pub returns-in-Bind : goal.returns-in-Bind
returns-in-Bind c =
    subst (λ (i : Item). OnOk c.push_bind.result (c.push_bind.new.out.items ≡ c.args.out.now.items ++ item_members i)) (sym c.in-Bind.is)
    c.push_bind.ensures

pub returns-in-Unbind : goal.returns-in-Unbind
returns-in-Unbind c =
    subst (λ (i : Item). OnOk c.push_unbind.result (c.push_unbind.new.out.items ≡ c.args.out.now.items ++ item_members i))
    (sym c.in-Unbind.is) c.push_unbind.ensures

pub returns-in-Gone : goal.returns-in-Gone
returns-in-Gone c =
    subst (λ (i : Item). OnOk c.push_gone.result (c.push_gone.new.out.items ≡ c.args.out.now.items ++ item_members i)) (sym c.in-Gone.is)
    c.push_gone.ensures
