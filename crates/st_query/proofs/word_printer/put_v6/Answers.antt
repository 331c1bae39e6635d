use Rattle.std.proofs.Common.{ℕ, ◌≡◌, ◌∙◌, ◌++◌, subst, OnOk}
use Rattle.std.specs.Int.{w128, to_be_bytes}
use Rattle.std.specs.Net.Addr.{IsIpv6OfBits, ipv6_segments, segments_of}
use Rattle.std.specs.declared.net.ipv6_addr.Ipv6Addr.{Ipv6Addr}
use Rattle.st_query.specs.PrintedWords.{groups_text}
use Rattle.st_query.proofs.word_printer.put_v6.Goals as goal

groups_of : (ip : Ipv6Addr) (bits : ℕ) → IsIpv6OfBits ip bits → ipv6_segments ip ≡ segments_of (to_be_bytes w128 bits)
unfolding IsIpv6OfBits
groups_of ip bits h = h

pub returns : goal.returns
returns c =
    subst (λ t. OnOk c.put_groups.result (c.put_groups.new.out.items ≡ c.args.out.now.items ++ groups_text t))
    (c.segments-groups.ensures ∙ groups_of c.from_bits.result c.args.bits c.from_bits.ensures) c.put_groups.ensures
