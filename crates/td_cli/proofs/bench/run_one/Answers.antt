use Rattle.std.proofs.Common.{◌≡◌, ℕ, sym, subst}
use Rattle.std.specs.Box.{with_value}
use Rattle.td_formats.specs.declared.format.Format.{Format}
use Rattle.td_formats.specs.declared.format.Format.TheVariants.{Ethernet, Ipv4, Tcp, Rndis}
use Rattle.td_gen.specs.Message.{format_of}
use Rattle.td_cli.specs.declared.bench.Prepared.{Prepared}
use Rattle.td_cli.specs.Benching.{IsPrepared}
use Rattle.td_cli.proofs.Benches.{are_modules}
use Rattle.td_cli.proofs.bench.run_one.Goals as goal

prepared_at : (k : ℕ) (p q : Prepared) → q ≡ p → (f : Format) → f ≡ format_of k → IsPrepared f p → IsPrepared (format_of k) q
prepared_at k p q same f is h = subst (λ (x : Prepared). IsPrepared (format_of k) x) (sym same) (subst (λ (x : Format). IsPrepared x p) is h)

pub returns-in-Ethernet-clause-prepared : goal.returns-in-Ethernet-clause-prepared
returns-in-Ethernet-clause-prepared c =
    let old = c.args.modules.now in
    let new = c.run_message.new.format in
    let p = subst (λ (f : Format). IsPrepared f new) (sym c.in-Ethernet.ensures) c.run_message.ensures.prepared in
    are_modules (with_value old.ethernet new) old.ipv4 old.tcp old.rndis p (c.requires Ipv4) (c.requires Tcp) (c.requires Rndis)

pub returns-in-Ipv4-clause-prepared : goal.returns-in-Ipv4-clause-prepared
returns-in-Ipv4-clause-prepared c =
    let old = c.args.modules.now in
    let new = c.run_message-in-Ipv4.new.format in
    let p = subst (λ (f : Format). IsPrepared f new) (sym c.in-Ipv4.ensures) c.run_message-in-Ipv4.ensures.prepared in
    are_modules old.ethernet (with_value old.ipv4 new) old.tcp old.rndis (c.requires Ethernet) p (c.requires Tcp) (c.requires Rndis)

pub returns-in-Tcp-clause-prepared : goal.returns-in-Tcp-clause-prepared
returns-in-Tcp-clause-prepared c =
    let old = c.args.modules.now in
    let new = c.run_message-in-Tcp.new.format in
    let p = subst (λ (f : Format). IsPrepared f new) (sym c.in-Tcp.ensures) c.run_message-in-Tcp.ensures.prepared in
    are_modules old.ethernet old.ipv4 (with_value old.tcp new) old.rndis (c.requires Ethernet) (c.requires Ipv4) p (c.requires Rndis)

pub returns-in-Rndis-clause-prepared : goal.returns-in-Rndis-clause-prepared
returns-in-Rndis-clause-prepared c =
    let old = c.args.modules.now in
    let new = c.run_message-in-Rndis.new.format in
    let p = subst (λ (f : Format). IsPrepared f new) (sym c.in-Rndis.ensures) c.run_message-in-Rndis.ensures.prepared in
    are_modules old.ethernet old.ipv4 old.tcp (with_value old.rndis new) (c.requires Ethernet) (c.requires Ipv4) (c.requires Tcp) p

pub run_message-requires : goal.run_message-requires
run_message-requires c = prepared_at c.args.k c.args.modules.now.ethernet.value c.deref_mut.result.now c.deref_mut.ensures.value Ethernet c.in-Ethernet.ensures (c.requires Ethernet)

pub run_message-requires-in-Ipv4 : goal.run_message-requires-in-Ipv4
run_message-requires-in-Ipv4 c = prepared_at c.args.k c.args.modules.now.ipv4.value c.deref_mut-in-Ipv4.result.now c.deref_mut-in-Ipv4.ensures.value Ipv4 c.in-Ipv4.ensures (c.requires Ipv4)

pub run_message-requires-in-Tcp : goal.run_message-requires-in-Tcp
run_message-requires-in-Tcp c = prepared_at c.args.k c.args.modules.now.tcp.value c.deref_mut-in-Tcp.result.now c.deref_mut-in-Tcp.ensures.value Tcp c.in-Tcp.ensures (c.requires Tcp)

pub run_message-requires-in-Rndis : goal.run_message-requires-in-Rndis
run_message-requires-in-Rndis c = prepared_at c.args.k c.args.modules.now.rndis.value c.deref_mut-in-Rndis.result.now c.deref_mut-in-Rndis.ensures.value Rndis c.in-Rndis.ensures (c.requires Rndis)
