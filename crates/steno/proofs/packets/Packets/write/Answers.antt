use Rattle.std.proofs.Common.{◌≡◌, map, ap, subst, ◌∙◌}
use Rattle.std.specs.List.{flat_map}
use Rattle.st_base.specs.Pieces.{AppendsPrefix, Puts}
use Rattle.st_base.proofs.Putting.{prefix-more}
use Rattle.st_pcap.specs.Text.{PcapText, file_head, record_text}
use Rattle.steno.specs.PacketsView.{PacketsView}
use Rattle.steno.specs.Packets.{record_of, text_of}
use Rattle.steno.proofs.Buffers.{texts-are}
use Rattle.steno.proofs.Writing.{puts-then}
use Rattle.steno.proofs.packets.Packets.write.Goals as goal

pub returns-in-Ok-clause-bytes : goal.returns-in-Ok-clause-bytes
returns-in-Ok-clause-bytes g c =
    let unit = c.self.inside.unit in
    let text = c.self.inside.text.items in
    let order = c.self.inside.order.items in
    let records = flat_map (record_text unit) (map (record_of text) order) in
    let old = g.O.Sink.written c.args.out.now in
    let mid = g.O.Sink.written c.put_header.new.sink in
    let new = g.O.Sink.written c.put_texts.new.out in
    let texts : flat_map (text_of c.as_slice-in-Ok.result.now) c.as_slice.result.now ≡ records =
    ap (λ t. flat_map (text_of t) c.as_slice.result.now) c.as_slice-in-Ok.ensures.value
    ∙ (ap (flat_map (text_of text)) c.as_slice.ensures.value ∙ texts-are unit text order c.self.invariant) in
    let put = subst (λ l. Puts mid new l c.put_texts.result) texts c.put_texts.ensures.bytes in
    subst (λ (v : PacketsView). Puts old new (PcapText v.records v.unit) c.put_texts.result) c.self.view_is
    (puts-then old mid new (file_head unit) records c.put_texts.result c.in-Ok.ensures.bytes put)

pub returns-in-Err-clause-bytes : goal.returns-in-Err-clause-bytes
returns-in-Err-clause-bytes g c =
    let unit = c.self.inside.unit in
    let records = flat_map (record_text unit) (map (record_of c.self.inside.text.items) c.self.inside.order.items) in
    let old = g.O.Sink.written c.args.out.now in
    let new = g.O.Sink.written c.put_header.new.sink in
    subst (λ (v : PacketsView). AppendsPrefix old new (PcapText v.records v.unit)) c.self.view_is (prefix-more old new (file_head unit) records c.in-Err.ensures.bytes)
