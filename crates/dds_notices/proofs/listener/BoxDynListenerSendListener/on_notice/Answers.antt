use Rattle.std.proofs.Common.{◌≡◌, ◌∙◌, Global, ap, refl, subst}
use Rattle.std.specs.declared.dyn_box.DynBox.{DynBox}
use Rattle.dds_notices.specs.Notices.{told}
use Rattle.dds_notices.proofs.listener.BoxDynListenerSendListener.on_notice.Goals as goal

pub returns-clause-notices : goal.returns-clause-notices
returns-clause-notices g c =
    c.on_notice.ensures.0
    ∙ ap (λ p. told ((g.dyn-1.0.entry p.0).1.capacity p.1) ((g.dyn-1.0.entry p.0).1.notices p.1) c.args.notice.now)
    c.deref_box_mut-1.ensures.value.1

pub returns-clause-capacity : goal.returns-clause-capacity
returns-clause-capacity g c =
    c.on_notice.ensures.1.0 ∙ ap (λ p. (g.dyn-1.0.entry p.0).1.capacity p.1) c.deref_box_mut-1.ensures.value.1

pub returns-clause-becomes : goal.returns-clause-becomes
returns-clause-becomes g c =
    subst (λ p. (x : (g.dyn-1.0.entry p.0).0.Denot) × (g.dyn-1.0.entry p.0).1.becomes p.1 c.args.notice.now x
    × ◌≡◌ {A = DynBox g.dyn-1.0.I Global (λ i. (g.dyn-1.0.entry i).0.Denot)}
    (record {
      ptr = c.args.self.now.ptr;
      vtable = c.deref_box_mut-1.result.now.0;
      alloc = c.args.self.now.alloc;
      value = c.on_notice.new.self;
    })
    (record { ptr = c.args.self.now.ptr; vtable = p.0; alloc = c.args.self.now.alloc; value = x }))
    c.deref_box_mut-1.ensures.value.1 (c.on_notice.new.self, c.on_notice.ensures.1.1, refl)
