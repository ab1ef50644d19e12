-- What the tests decide, point by point.
use Rattle.std.proofs.Common.{◌≡◌, Bool, true, List, ◌&&◌, All, Decides}
use Rattle.std.proofs.lemmas.Bool.Decides.{Decides-and}
use Rattle.store_soundness.specs.Entries.{are_unbondings_sound, are_redelegations_sound}
use Rattle.store_soundness.specs.Ranges.{is_context_sound, are_backed}
use Rattle.law_records.specs.Laws.{RecordsAscend, GroundIsDecided, FewIsDecided, StakedIsDecided, AccountsAreDecided, ValidatorsAreDecided, StandingIsDecided, EntriesAreDecided, RecordingIsDecided, SigningIsSoundByTests}
use Rattle.law_records.proofs.{AccountLaws.accounts_decide, AscendLaws.records_ascend, BackedLaws.backed_decides}
use Rattle.law_records.proofs.{EntryLaws.{unbondings_decide, redelegations_decide}, FewLaws.few_decides}
use Rattle.law_records.proofs.{RangeLaws.{context_decides, validators_decide}, ShareLaws.staked_decide}
use Rattle.law_records.proofs.{SigningLaws.{recorded_decides, window_sound}, StandLaws.stands_decide}

pub all_ascend : RecordsAscend
all_ascend items = records_ascend items

pub ground_is_decided : GroundIsDecided
ground_is_decided r a =
    let both = Decides-and (is_context_sound r.ctx) (are_backed r.lists.bank.balances r.lists.bank.supplies) (context_decides r.ctx) (backed_decides r.lists.bank a.balances a.supplies) in
    (λ t. let h = both.0 t in record { params = h.0.0; time = h.0.1.0; height = h.0.1.1; bank = h.1 }, λ s. both.1 ((s.params, (s.time, s.height)), s.bank))

pub few_are_decided : FewIsDecided
few_are_decided r belong = few_decides r belong

pub staked_is_decided : StakedIsDecided
staked_is_decided r a shares = staked_decide r.ctx.height r.lists.staked a.validators a.operators a.delegations shares

pub accounts_are_decided : AccountsAreDecided
accounts_are_decided r a coins t = accounts_decide r coins ((backed_decides r.lists.bank a.balances a.supplies).0 t)

pub validators_are_decided : ValidatorsAreDecided
validators_are_decided r = validators_decide r.ctx.height r.lists.staked.validators

pub standing_is_decided : StandingIsDecided
standing_is_decided r = stands_decide r

pub entries_are_decided : EntriesAreDecided
entries_are_decided r a =
    Decides-and (are_unbondings_sound r.ctx.height r.lists.unbondings) (are_redelegations_sound r.ctx.height r.lists.redelegations)
    (unbondings_decide r.ctx.height r.lists.unbondings a.unbondings) (redelegations_decide r.ctx.height r.lists.redelegations a.redelegations)

pub recording_is_decided : RecordingIsDecided
recording_is_decided r = recorded_decides r.lists.staked r.ctx.params.signed_blocks_window r.lists.signings

pub signing_is_sound : SigningIsSoundByTests
signing_is_sound r a t = window_sound r.ctx.height r.ctx.params.signed_blocks_window r.lists.signings a.signings t
