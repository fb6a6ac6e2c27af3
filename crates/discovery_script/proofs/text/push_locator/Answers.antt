use Rattle.std.proofs.Common.{append_assoc, codes, subst, sym}
use Rattle.std.specs.Fmt.{decimal}
use Rattle.dds_script.specs.Lines.{Adds}
use Rattle.dds_script.proofs.LineLaws.{adds_more}
use Rattle.discovery_script.specs.Told.{address_text}
use Rattle.discovery_script.proofs.text.push_locator.Goals as goal

pub returns : goal.returns
returns c =
    let locator = c.args.locator.now in
    record {
      added = subst (λ text. Adds c.args.text.now text c.push_word.new.self)
          (sym (append_assoc (address_text locator.address) (codes ":") (decimal locator.port)))
          (adds_more c.args.text.now c.push_address.new.text c.push_word.new.self _ _ c.in_ok-push_address.ensures.added
          (rw (c.as_str.ensures.value, c.in_ok-format.ensures.ok) at c.push_word.ensures.added));
    }
