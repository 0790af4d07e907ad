use Rattle.std.proofs.Common.{Ok, Option, sym, ap, refl}
use Rattle.ring.specs.Runs.{Reserve, Put, Submit, Withdraw, Peek, Get, Cancel, Release, Push, Take}
use Rattle.ring.specs.Rings.{one_of}
use Rattle.ring_scripts.specs.declared.Answer.TheVariants.{Entry, Popped}
use Rattle.ring_scripts.proofs.Performed.{performs, mapped, popped_one}
use Rattle.ring_scripts.proofs.perform.Goals as goal

pub returns-in-Reserve-clause-performed : goal.returns-in-Reserve-clause-performed
returns-in-Reserve-clause-performed g c = performs _ _ _ _ _ (Reserve c.in-Reserve.n c.reserve.result) c.in-Reserve.is c.reserve.ensures.reserved (c.reserve.result, refl) (ap Ok c.from.ensures)

pub returns-in-Put-clause-performed : goal.returns-in-Put-clause-performed
returns-in-Put-clause-performed g c = performs _ _ _ _ _ (Put c.in-Put.mark c.in-Put.entry c.put.result) c.in-Put.is c.put.ensures.written (c.put.result, refl) c.and.ensures

pub returns-in-Submit-clause-performed : goal.returns-in-Submit-clause-performed
returns-in-Submit-clause-performed g c = performs _ _ _ _ _ (Submit c.in-Submit.n c.submit.result) c.in-Submit.is c.submit.ensures.submitted (c.submit.result, refl) c.and-in-Submit.ensures

pub returns-in-Withdraw-clause-performed : goal.returns-in-Withdraw-clause-performed
returns-in-Withdraw-clause-performed g c = performs _ _ _ _ _ (Withdraw c.in-Withdraw.n c.withdraw.result) c.in-Withdraw.is c.withdraw.ensures.withdrawn (c.withdraw.result, refl) c.and-in-Withdraw.ensures

pub returns-in-Peek-clause-performed : goal.returns-in-Peek-clause-performed
returns-in-Peek-clause-performed g c = performs _ _ _ _ _ (Peek c.in-Peek.n c.peek.result) c.in-Peek.is c.peek.ensures.peeked (c.peek.result, refl) (ap Ok c.from-in-Peek.ensures)

pub returns-in-Cancel-clause-performed : goal.returns-in-Cancel-clause-performed
returns-in-Cancel-clause-performed g c = performs _ _ _ _ _ (Cancel c.in-Cancel.n c.cancel.result) c.in-Cancel.is c.cancel.ensures.cancelled (c.cancel.result, refl) c.and-in-Cancel.ensures

pub returns-in-Release-clause-performed : goal.returns-in-Release-clause-performed
returns-in-Release-clause-performed g c = performs _ _ _ _ _ (Release c.in-Release.n c.release.result) c.in-Release.is c.release.ensures.released (c.release.result, refl) c.and-in-Release.ensures

pub returns-in-Push-clause-performed : goal.returns-in-Push-clause-performed
returns-in-Push-clause-performed g c = performs _ _ _ _ _ (Push c.in-Push.entry c.push.result) c.in-Push.is c.push.ensures.pushed (c.push.result, refl) c.and-in-Push.ensures

pub returns-in-Get-clause-performed : goal.returns-in-Get-clause-performed
returns-in-Get-clause-performed g c =
    performs _ _ _ _ _ (Get c.in-Get.mark c.get.result) c.in-Get.is (c.get.ensures.read, refl) (c.get.result, refl) (mapped Entry c.get.result c.map.result c.map.ensures.cases)

pub returns-in-Pop-clause-performed : goal.returns-in-Pop-clause-performed
returns-in-Pop-clause-performed g c =
    let o = c.pop.result in
    performs _ _ _ _ _ (Take 1 (one_of o)) c.in-Pop.is c.pop.ensures.one (one_of o, refl) (sym (ap (λ (x : Option _). Ok (Popped x)) (popped_one o)))
