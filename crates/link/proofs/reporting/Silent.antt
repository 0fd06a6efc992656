-- A host reports nothing (reading 31; 02, request 2: "the equipment side"): of every unit that is reached (`specs/Reporting.antt`: HostSilent). Assumes nothing.
use mathlib.Core.Path.{◌≡◌, sym, ap, subst, ◌∙◌}
use mathlib.Core.Bool.{true}
use Rattle.settings.specs.declared.terms.Terms.{Terms}
use Rattle.reports.specs.Reports.{waiting_in}
use Rattle.reports.specs.declared.Reports.{Reports}
use Rattle.exchange.proofs.Runs.{four_places, anyone, run_alone}
use Rattle.exchange.proofs.Hosting as hosting
use Rattle.exchange.proofs.Hosting.{silent_on, silent_fresh}
use Rattle.link.specs.History.{Made, Track, exchange_track, terms_in, on_exchange_in, next}
use Rattle.link.specs.Inside.{Reached}
use Rattle.link.specs.Reporting.{HostSilent}
use Rattle.link.proofs.inside.Reached.{by_calls}
use Rattle.link.proofs.inside.Places.{lent, goes, same_terms, sound_inside}

abbrev Hosts : Track → Type 0
Hosts t = (terms_in t).host ≡ true → hosting.Silent t.link.exchange

hosts_next : (t : Track) → Reached t → (m : Made) → Hosts t → Hosts (next t m)
hosts_next t r m w host =
    let c = terms_in t in
    let here : c.host ≡ true = sym (ap (λ (d : Terms). d.host) (same_terms t m)) ∙ host in
    subst hosting.Silent (goes t m)
    (run_alone c hosting.Silent (λ k. Unit {0}) (λ x room k i g v. silent_on c here x room (four_places x g) v k) (exchange_track t (lent t m))
    (on_exchange_in t m) (anyone (on_exchange_in t m)) (sound_inside t r) (w here))

pub host_silent : HostSilent
host_silent t r host =
    let w = by_calls Hosts hosts_next t r (λ e. silent_fresh r.setup.last) host in
    record { none_sent = w.sends; none_waits = ap waiting_in w.none; none_dropped = ap (λ (z : Reports). z.dropped) w.none }
