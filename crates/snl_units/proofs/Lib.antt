mod ExactLaws
